-- Branches, skips, jumps, calls and returns.
use Rattle.std.proofs.Common.{◌≡◌, refl, sym, ◌∙◌, ap, ap₂, subst, ℕ, zero, suc, ◌+◌, ◌*◌, ◌==◌, Bool, true, false, not, if◌then◌else◌, List, [], ◌∷◌, Option, Some, None, slice_index, slice_set, arith, Contains}
use Rattle.std.specs.Int.{from_bool}
use Rattle.std.proofs.lemmas.Bool.Decides.{nat_tests}
use Rattle.avr_model.specs.declared.assumption.Entry.{Entry}
use Rattle.avr_model.specs.declared.effect.Effect.{Effect}
use Rattle.avr_model.specs.Assumptions.{jump_line}
use Rattle.avr_model.specs.Image.{word_at}
use Rattle.avr_model.specs.Sreg.{flag}
use Rattle.avr_model.specs.Table.{length_of}
use Rattle.avr_model.specs.Text.{near}
use Rattle.avr_model.specs.State.{State, EIND, register, pair}
use Rattle.avr_model.specs.Effects.{extended_word, going_to, further, skipping, calling, returning, branch_effect, reti_effect}
use Rattle.avr_model.specs.Step.{unless_listed}
use Rattle.bit_domain.specs.declared.bits.Tri.{Tri}
use Rattle.bit_domain.specs.declared.bits.Tri.TheVariants.{Zero, One, Any}
use Rattle.bit_domain.specs.Tri.{Permits, tri_not}
use Rattle.bit_domain.specs.declared.bytes.TriByte.{TriByte}
use Rattle.bit_domain.specs.TriByte.{Has, tri_at, byte_known}
use Rattle.bit_domain.specs.Numbers.{PointerBits}
use Rattle.bit_domain.proofs.AllLaws.{bytes_are_sets}
use Rattle.sp_domain.specs.declared.tags.CarryTag.{CarryTag}
use Rattle.sp_domain.specs.declared.tags.CarryTag.TheVariants as carry_tag
use Rattle.sp_domain.specs.Tags.{Origin, LessHolds}
use Rattle.abs_state.specs.declared.values.AbsByte.{AbsByte}
use Rattle.abs_state.specs.Formed.{CarryNamesRegister}
use Rattle.abs_state.specs.Stands.{RegistersStand}
use Rattle.abs_state.specs.declared.state.AbsState.{AbsState}
use Rattle.node_keys.specs.declared.keys.NodeKey.{NodeKey}
use Rattle.node_keys.specs.declared.keys.Kind.{Kind}
use Rattle.node_keys.specs.declared.keys.Kind.TheVariants.{Root, Call, Vector}
use Rattle.node_keys.specs.declared.keys.SpForm.{SpForm}
use Rattle.node_keys.specs.declared.keys.SpForm.TheVariants.{Closed, Open}
use Rattle.local_rules.specs.declared.local.Exit.{Exit}
use Rattle.local_rules.specs.declared.local.Node.{Node}
use Rattle.local_rules.specs.Raw.{Raw, moves_to, all_of, untracked_if, at_word, off_table, going_to as node_going_to, further as node_further}
use Rattle.local_rules.specs.Registers.{value, bits, set, carry_bit}
use Rattle.local_rules.specs.Flow.{branch, branch_by as node_branch_by, skipping as node_skipping, flag_at, with_value, where_carry, going_where, carry_branch, flag_branch, words_on, targets_by, z_with, jumping, is_half_written, at_closed, calling as node_calling, indirect_call, site, returning as node_returning, ret_exit, reti_exit}
use Rattle.local_rules.specs.Cover.{stays, calls, leaves, IsReturn}
use Rattle.local_laws.proofs.Bare.{InBareFrame}
use Rattle.local_laws.proofs.Landing.{ArrivesWhere, FollowsWhere}
use Rattle.local_laws.proofs.Bits.{permits_flag, with_bit_same, with_bit_7_low}
use Rattle.std.proofs.lemmas.List.Elements.{Contains-append_left, Contains-append_right}
use Rattle.basics.specs.Items.{first_in}
use Rattle.avr_model.proofs.AllLaws.{devices_are_alike}
use Rattle.avr_model.specs.Devices.{Image, wrapped}
use Rattle.local_laws.proofs.Less.{part_stands}
use Rattle.local_laws.proofs.Frame.{second, set_one, only, goes_to, turns_to, goes_cut}
use Rattle.local_laws.proofs.Alu.{register_byte, register_bits}
use Rattle.local_laws.proofs.Targets.{in_map, word_permitted, targets_have}
use Rattle.local_rules.specs.Site.{site_at}

pub not_may : (t : Tri) (b : Bool) → Permits t (from_bool b) → Permits (tri_not t) (from_bool (not b))
not_may Zero true h = absurd (omega arith)
not_may Zero false h = refl
not_may One true h = refl
not_may One false h = absurd (omega arith)
not_may Any b h = tt

set_itself : (xs : List ℕ) (r : ℕ) → slice_set xs r (slice_index xs r) ≡ xs
set_itself [] r = refl
set_itself (x ∷ xs) zero = refl
set_itself (x ∷ xs) (suc r) = ap (λ (ys : List ℕ). x ∷ ys) (set_itself xs r)

module _ {may : Bool} (m : State) (o : Origin) (k : NodeKey) (s : AbsState) (at : InBareFrame may m o k s) (guarded : Bool) (b1 b2 : ℕ) where
  pub going_covered : (pc pc' : ℕ) → wrapped m.device pc ≡ pc' → FollowsWhere may m o s.facts k guarded b1 b2 (going_to m pc) (node_going_to k s pc')
  going_covered pc pc' is = only m o k s at guarded b1 b2 (going_to m pc) (record { key = at_word k pc'; state = s }) refl (goes_to m o k s at guarded pc pc' is)

  pub further_is : (n : ℕ) → further m n ≡ node_further m.device k n
  further_is n = ap (λ pc. wrapped m.device (pc + n)) at.place.pc

  pub goes_further : (n : ℕ) → wrapped m.device (further m n) ≡ node_further m.device k n
  goes_further n = devices_are_alike.twice m.device (m.pc + n) ∙ further_is n

  pub goes_near : (t : ℕ) → wrapped m.device (near m.pc t) ≡ wrapped m.device (near k.pc t)
  goes_near t = ap (λ pc. wrapped m.device (near pc t)) at.place.pc

  -- ---- branches and skips

  -- each successor with its key
  branch_keys : (t : Tri) (test : Bool) (j l : NodeKey) (taken taken' other other' : ℕ) → j.inst ≡ k.inst → l.inst ≡ k.inst
      → (test ≡ true → ArrivesWhere may m o s.facts guarded (going_to m taken) (record { key = off_table j taken'; state = s }))
      → (test ≡ false → ArrivesWhere may m o s.facts guarded (going_to m other) (record { key = off_table l other'; state = s })) → Permits t (from_bool test)
      → FollowsWhere may m o s.facts k guarded b1 b2 (going_to m (if test then taken else other)) (node_branch_by t (off_table j taken') (off_table l other') s)
  branch_keys Zero true j l taken taken' other other' same same' goes goes' can = absurd (omega arith)
  branch_keys Zero false j l taken taken' other other' same same' goes goes' can =
      only m o k s at guarded b1 b2 (going_to m other) (record { key = off_table l other'; state = s }) same' (goes' refl)
  branch_keys One true j l taken taken' other other' same same' goes goes' can =
      only m o k s at guarded b1 b2 (going_to m taken) (record { key = off_table j taken'; state = s }) same (goes refl)
  branch_keys One false j l taken taken' other other' same same' goes goes' can = absurd (omega arith)
  branch_keys Any true j l taken taken' other other' same same' goes goes' can =
      record {
        leads = λ held. stays (record { key = off_table j taken'; state = s }) (second (record { key = off_table l other'; state = s }) (record { key = off_table j taken'; state = s }) []) same
            ((goes refl).lands held);
      }
  branch_keys Any false j l taken taken' other other' same same' goes goes' can =
      record {
        leads = λ held. stays (record { key = off_table l other'; state = s }) (first_in (record { key = off_table l other'; state = s }) (record { key = off_table j taken'; state = s } ∷ [])) same'
            ((goes' refl).lands held);
      }

  branch_by : (t : Tri) (test : Bool) (taken taken' other other' : ℕ) → wrapped m.device taken ≡ taken' → wrapped m.device other ≡ other' → Permits t (from_bool test)
      → FollowsWhere may m o s.facts k guarded b1 b2 (going_to m (if test then taken else other)) (branch t k s taken' other')
  branch_by t test taken taken' other other' is is' can =
      branch_keys t test k k taken taken' other other' refl refl (λ e. turns_to m o k s at guarded taken taken' is) (λ e. turns_to m o k s at guarded other other' is') can

  flag_may : (n : ℕ) → Permits (flag_at k s n) (from_bool (flag m.sreg n))
  flag_may n = by_i (n == 7) refl
    where
      key_may : (b : Bool) → flag m.sreg 7 ≡ b → Permits (if b then One else Zero) (from_bool (flag m.sreg 7))
      key_may true e = ap from_bool e
      key_may false e = ap from_bool e

      by_i : (is_i : Bool) → (n == 7) ≡ is_i → Permits (if is_i then (if k.i then One else Zero) else tri_at s.flags.bits n) (from_bool (flag m.sreg n))
      by_i true e = let is : 7 ≡ n = grind (arith, nat_tests) in subst (λ x. Permits (if k.i then One else Zero) (from_bool (flag m.sreg x))) is (key_may k.i at.place.i)
      by_i false e = permits_flag s.flags.bits m.sreg n at.stands.flags.bits

  brbs_by : (n t : ℕ) → FollowsWhere may m o s.facts k guarded b1 b2 (branch_effect m (flag m.sreg n) t) (branch (flag_at k s n) k s (wrapped m.device (near k.pc t)) (node_further m.device k 1))
  brbs_by n t = branch_by (flag_at k s n) (flag m.sreg n) (near m.pc t) (wrapped m.device (near k.pc t)) (further m 1) (node_further m.device k 1) (goes_near t) (goes_further 1) (flag_may n)

  brbc_by : (n t : ℕ)
      → FollowsWhere may m o s.facts k guarded b1 b2 (branch_effect m (not (flag m.sreg n)) t) (branch (tri_not (flag_at k s n)) k s (wrapped m.device (near k.pc t)) (node_further m.device k 1))
  brbc_by n t =
      branch_by (tri_not (flag_at k s n)) (not (flag m.sreg n)) (near m.pc t) (wrapped m.device (near k.pc t)) (further m 1) (node_further m.device k 1)
      (goes_near t) (goes_further 1) (not_may (flag_at k s n) (flag m.sreg n) (flag_may n))

  -- ---- branches on C

  -- the state if C has its value
  cut_by : (c : CarryTag) → s.flags.carry ≡ c → CarryNamesRegister c → LessHolds m.registers c (flag m.sreg 0) → (on : Bool) → flag m.sreg 0 ≡ on
      → (values : List AbsByte) × ((where_carry c s on ≡ Some (record s { registers = values })) × RegistersStand o values m.registers)
  cut_by carry_tag.None is lt h on e = (s.registers, (refl, at.stands.registers))
  cut_by (carry_tag.Borrow j l) is lt h on e = (s.registers, (refl, at.stands.registers))
  cut_by (carry_tag.Sum j l) is lt h on e = (s.registers, (refl, at.stands.registers))
  cut_by (carry_tag.Less r n) is lt h on e =
      let part = part_stands o (value s r) (register m r) n on (at.stands.registers r (omega (arith, lt))) (sym e ∙ h) in
      let kept : slice_set m.registers r (register m r) ≡ m.registers = set_itself m.registers r in (
        set s r part.0,
        (
          ap (with_value s r) part.1.0,
          subst (RegistersStand o (set s r part.0)) kept (set_one m o k s at r part.0 (register m r) part.1.1),
        ),
      )

  goes_where : (on : Bool) → flag m.sreg 0 ≡ on → (pc pc' : ℕ) → wrapped m.device pc ≡ pc'
      → (to : Node) × ((going_where k (where_carry s.flags.carry s on) pc' ≡ moves_to (to ∷ [])) × ((to.key.inst ≡ k.inst) × ArrivesWhere may m o s.facts guarded (going_to m pc) to))
  goes_where on e pc pc' is =
      let cut = cut_by s.flags.carry refl at.node.formed.carry at.stands.less on e in (
        record { key = off_table k pc'; state = record s { registers = cut.0 } },
        (ap (λ (t : Option AbsState). going_where k t pc') cut.1.0, (refl, goes_cut m o k s at guarded pc pc' cut.0 is cut.1.1)),
      )

  follows_one : (e : Effect) (r : Raw) → (to : Node) × ((r ≡ moves_to (to ∷ [])) × ((to.key.inst ≡ k.inst) × ArrivesWhere may m o s.facts guarded e to)) → FollowsWhere may m o s.facts k guarded b1 b2 e r
  follows_one e r h = subst (FollowsWhere may m o s.facts k guarded b1 b2 e) (sym h.1.0) (only m o k s at guarded b1 b2 e h.0 h.1.1.0 h.1.1.1)

  follows_first : (e : Effect) (r q : Raw) → (to : Node) × ((r ≡ moves_to (to ∷ [])) × ((to.key.inst ≡ k.inst) × ArrivesWhere may m o s.facts guarded e to))
      → FollowsWhere may m o s.facts k guarded b1 b2 e (all_of (r ∷ q ∷ []))
  follows_first e r q h =
      subst (λ (x : Raw). FollowsWhere may m o s.facts k guarded b1 b2 e (all_of (x ∷ q ∷ []))) (sym h.1.0)
      (record { leads = λ held. stays h.0 (Contains-append_left (h.0 ∷ []) (all_of (q ∷ [])).moves h.0 (first_in h.0 [])) h.1.1.0 (h.1.1.1.lands held) })

  follows_second : (e : Effect) (r q : Raw) → (to : Node) × ((q ≡ moves_to (to ∷ [])) × ((to.key.inst ≡ k.inst) × ArrivesWhere may m o s.facts guarded e to))
      → FollowsWhere may m o s.facts k guarded b1 b2 e (all_of (r ∷ q ∷ []))
  follows_second e r q h =
      subst (λ (x : Raw). FollowsWhere may m o s.facts k guarded b1 b2 e (all_of (r ∷ x ∷ []))) (sym h.1.0)
      (record { leads = λ held. stays h.0 (Contains-append_right r.moves (h.0 ∷ []) h.0 (first_in h.0 [])) h.1.1.0 (h.1.1.1.lands held) })

  carry_by : (t : Tri) (on : Bool) → flag m.sreg 0 ≡ on → (set' set'' clear clear' : ℕ) → wrapped m.device set' ≡ set'' → wrapped m.device clear ≡ clear' → Permits t (from_bool on)
      → FollowsWhere may m o s.facts k guarded b1 b2 (going_to m (if on then set' else clear)) (carry_branch t k s set'' clear')
  carry_by One true e set' set'' clear clear' is is' may = follows_one _ _ (goes_where true e set' set'' is)
  carry_by One false e set' set'' clear clear' is is' may = absurd (omega arith)
  carry_by Zero true e set' set'' clear clear' is is' may = absurd (omega arith)
  carry_by Zero false e set' set'' clear clear' is is' may = follows_one _ _ (goes_where false e clear clear' is')
  carry_by Any true e set' set'' clear clear' is is' may =
      follows_second _ (going_where k (where_carry s.flags.carry s false) clear') (going_where k (where_carry s.flags.carry s true) set'') (goes_where true e set' set'' is)
  carry_by Any false e set' set'' clear clear' is is' may =
      follows_first _ (going_where k (where_carry s.flags.carry s false) clear') (going_where k (where_carry s.flags.carry s true) set'') (goes_where false e clear clear' is')

  carry_permits : Permits (carry_bit s) (from_bool (flag m.sreg 0))
  carry_permits = permits_flag s.flags.bits m.sreg 0 at.stands.flags.bits

  -- flag 0 is C
  by_flag : (n : ℕ) (is_carry : Bool) → (n == 0) ≡ is_carry → (set' clear : ℕ) (e : Effect) (other : Raw)
      → (0 ≡ n → FollowsWhere may m o s.facts k guarded b1 b2 e (carry_branch (carry_bit s) k s set' clear)) → FollowsWhere may m o s.facts k guarded b1 b2 e other
      → FollowsWhere may m o s.facts k guarded b1 b2 e (if is_carry then carry_branch (carry_bit s) k s set' clear else other)
  by_flag n true is set' clear e other h g = h (grind (arith, nat_tests))
  by_flag n false is set' clear e other h g = g

  pub turned : (b : Bool) (x y : ℕ) → (if b then x else y) ≡ (if not b then y else x)
  turned true x y = refl
  turned false x y = refl

  pub brbs_covered : (n t : ℕ)
      → FollowsWhere may m o s.facts k guarded b1 b2 (branch_effect m (flag m.sreg n) t)
      (flag_branch n (record { key = k; state = s }) (wrapped m.device (near k.pc t)) (node_further m.device k 1) (branch (flag_at k s n) k s (wrapped m.device (near k.pc t)) (node_further m.device k 1)))
  brbs_covered n t =
      by_flag n (n == 0) refl (wrapped m.device (near k.pc t)) (node_further m.device k 1) _ _
      (λ is. subst (λ (i : ℕ). FollowsWhere may m o s.facts k guarded b1 b2 (branch_effect m (flag m.sreg i) t) (carry_branch (carry_bit s) k s (wrapped m.device (near k.pc t)) (node_further m.device k 1))) is
      (carry_by (carry_bit s) (flag m.sreg 0) refl (near m.pc t) (wrapped m.device (near k.pc t)) (further m 1) (node_further m.device k 1) (goes_near t) (goes_further 1) carry_permits))
      (brbs_by n t)

  pub brbc_covered : (n t : ℕ)
      → FollowsWhere may m o s.facts k guarded b1 b2 (branch_effect m (not (flag m.sreg n)) t)
      (flag_branch n (record { key = k; state = s }) (node_further m.device k 1) (wrapped m.device (near k.pc t)) (branch (tri_not (flag_at k s n)) k s (wrapped m.device (near k.pc t)) (node_further m.device k 1)))
  brbc_covered n t =
      by_flag n (n == 0) refl (node_further m.device k 1) (wrapped m.device (near k.pc t)) _ _
      (λ is. subst (λ (i : ℕ). FollowsWhere may m o s.facts k guarded b1 b2 (branch_effect m (not (flag m.sreg i)) t) (carry_branch (carry_bit s) k s (node_further m.device k 1) (wrapped m.device (near k.pc t)))) is
      (subst (λ (pc : ℕ). FollowsWhere may m o s.facts k guarded b1 b2 (going_to m pc) (carry_branch (carry_bit s) k s (node_further m.device k 1) (wrapped m.device (near k.pc t))))
      (turned (flag m.sreg 0) (further m 1) (near m.pc t))
      (carry_by (carry_bit s) (flag m.sreg 0) refl (further m 1) (node_further m.device k 1) (near m.pc t) (wrapped m.device (near k.pc t)) (goes_further 1) (goes_near t) carry_permits)))
      (brbc_by n t)

  -- past the next instruction with one key, and to it with the other
  pub skip_keys : (image : Image) (test : Bool) (t : Tri) (j l : NodeKey) → j.inst ≡ k.inst → l.inst ≡ k.inst
      → ((pc pc' : ℕ) → wrapped m.device pc ≡ pc' → test ≡ true → ArrivesWhere may m o s.facts guarded (going_to m pc) (record { key = off_table j pc'; state = s }))
      → ((pc pc' : ℕ) → wrapped m.device pc ≡ pc' → test ≡ false → ArrivesWhere may m o s.facts guarded (going_to m pc) (record { key = off_table l pc'; state = s }))
      → Permits t (from_bool test)
      → FollowsWhere may m o s.facts k guarded b1 b2 (skipping image m test)
      (node_branch_by t (off_table j (node_further m.device k (1 + length_of (word_at image (k.pc + 1))))) (off_table l (node_further m.device k 1)) s)
  skip_keys image test t j l same same' goes goes' can =
      by_test test
      (branch_keys t test j l (further m (1 + length_of (word_at image (m.pc + 1)))) (node_further m.device k (1 + length_of (word_at image (k.pc + 1)))) (further m 1) (node_further m.device k 1) same same'
      (goes _ _ (devices_are_alike.twice m.device (m.pc + (1 + length_of (word_at image (m.pc + 1)))) ∙ ap (λ pc. wrapped m.device (pc + (1 + length_of (word_at image (pc + 1))))) at.place.pc))
      (goes' _ _ (goes_further 1)) can)
    where
      -- the test is inside the sum
      by_test : (b : Bool)
          → FollowsWhere may m o s.facts k guarded b1 b2 (going_to m (if b then further m (1 + length_of (word_at image (m.pc + 1))) else further m 1))
          (node_branch_by t (off_table j (node_further m.device k (1 + length_of (word_at image (k.pc + 1))))) (off_table l (node_further m.device k 1)) s)
          → FollowsWhere may m o s.facts k guarded b1 b2 (skipping image m b)
          (node_branch_by t (off_table j (node_further m.device k (1 + length_of (word_at image (k.pc + 1))))) (off_table l (node_further m.device k 1)) s)
      by_test true h = h
      by_test false h = h

  pub skip_covered : (image : Image) (test : Bool) (t : Tri) → Permits t (from_bool test) → FollowsWhere may m o s.facts k guarded b1 b2 (skipping image m test) (node_skipping image (site_at m.device k s) k k t)
  skip_covered image test t can =
      skip_keys image test t k k refl refl (λ pc pc' is e. turns_to m o k s at guarded pc pc' is) (λ pc pc' is e. turns_to m o k s at guarded pc pc' is) can

  -- ---- indirect transfers

  -- what the state permits of the target
  abbrev permitted : TriByte → PointerBits
  permitted bank = z_with s bank

  -- the word of Z behind a bank is permitted
  bank_has : (bank : TriByte) (b z : ℕ) → Has bank b → z ≡ pair m 30 + 65536 * b → Contains (words_on m.device (permitted bank)) (wrapped m.device z)
  bank_has bank b z has is =
      subst (λ (n : ℕ). Contains (words_on m.device (permitted bank)) (wrapped m.device n)) (sym is)
      (word_permitted m.device (permitted bank) (register m 30) (register m 31) b (register_byte m o k s at 30) (register_byte m o k s at 31)
      (register_bits m o k s at 30) (register_bits m o k s at 31) has)

  z_has : Contains (words_on m.device (permitted (byte_known 0))) (wrapped m.device (pair m 30))
  z_has = bank_has (byte_known 0) 0 (pair m 30) ((bytes_are_sets.known 0 0 (omega arith) (omega arith)).1 refl) (omega arith)

  far_has : Contains (words_on m.device (permitted (bits s EIND))) (wrapped m.device (extended_word m))
  far_has = bank_has (bits s EIND) (register m EIND) (extended_word m) (register_bits m o k s at EIND) (omega arith)

  jump_by : (p : PointerBits) (z : ℕ) → Contains (words_on m.device p) (wrapped m.device z) → (line : Option (List ℕ)) (found : Option (List ℕ)) → targets_by m.device line p ≡ found
      → unless_listed line (wrapped m.device z) ≡ None
      → (jumping found k s).faults ≡ [] → FollowsWhere may m o s.facts k guarded b1 b2 (going_to m z) (jumping found k s)
  jump_by p z has line None e unflagged none = absurd (cc)
  jump_by p z has line (Some targets) e unflagged none =
      record {
        leads = λ held. stays (record { key = off_table k (wrapped m.device z); state = s })
            (in_map (λ t. record { key = off_table k t; state = s }) (wrapped m.device z) targets (targets_have m.device line p targets (wrapped m.device z) e has unflagged))
            refl ((turns_to m o k s at guarded z (wrapped m.device z) refl).lands held);
      }

  jump_covered : (p : PointerBits) (z : ℕ) → Contains (words_on m.device p) (wrapped m.device z) → (A : List Entry) → unless_listed (jump_line A m.pc) (wrapped m.device z) ≡ None
      → (jumping (targets_by m.device (jump_line A k.pc) p) k s).faults ≡ []
      → FollowsWhere may m o s.facts k guarded b1 b2 (going_to m z) (jumping (targets_by m.device (jump_line A k.pc) p) k s)
  jump_covered p z has A unflagged none =
      jump_by p z has (jump_line A k.pc) (targets_by m.device (jump_line A k.pc) p) refl
      (subst (λ pc. unless_listed (jump_line A pc) (wrapped m.device z) ≡ None) at.place.pc unflagged) none

  pub ijmp_covered : (A : List Entry) → unless_listed (jump_line A m.pc) (wrapped m.device (pair m 30)) ≡ None
      → (jumping (targets_by m.device (jump_line A k.pc) (permitted (byte_known 0))) k s).faults ≡ []
      → FollowsWhere may m o s.facts k guarded b1 b2 (going_to m (pair m 30)) (jumping (targets_by m.device (jump_line A k.pc) (permitted (byte_known 0))) k s)
  ijmp_covered = jump_covered (permitted (byte_known 0)) (pair m 30) z_has

  pub eijmp_covered : (A : List Entry) → unless_listed (jump_line A m.pc) (wrapped m.device (extended_word m)) ≡ None
      → (jumping (targets_by m.device (jump_line A k.pc) (permitted (bits s EIND))) k s).faults ≡ []
      → FollowsWhere may m o s.facts k guarded b1 b2 (going_to m (extended_word m)) (jumping (targets_by m.device (jump_line A k.pc) (permitted (bits s EIND))) k s)
  eijmp_covered = jump_covered (permitted (bits s EIND)) (extended_word m) far_has

  -- ---- calls

  -- a call with a half-written stack pointer is a fault
  unless_open : (form : SpForm) (pc : ℕ) (r : Raw) (e : Effect) → (untracked_if (is_half_written form) pc r).faults ≡ []
      → ((offset : ℕ) → form ≡ Closed offset → r.faults ≡ [] → FollowsWhere may m o s.facts k guarded b1 b2 e r) → FollowsWhere may m o s.facts k guarded b1 b2 e (untracked_if (is_half_written form) pc r)
  unless_open (Closed offset) pc r e none h = h offset refl none
  unless_open (Open offset high) pc r e none h = absurd (cc)

  -- a call whose entry is a word of the device
  abbrev call_to : ℕ → ℕ → Effect
  call_to pc back = record (calling m 0 back) { pc = pc }

  call_is : (target target' back back' : ℕ) → wrapped m.device target ≡ target' → back ≡ back' → calling m target back ≡ calling m target' back'
  call_is target target' back back' is is' = ap₂ call_to (sym (devices_are_alike.twice m.device target) ∙ ap (wrapped m.device) is) is'

  pub call_covered : (target target' back back' : ℕ) (targets : List ℕ) → guarded ≡ true → wrapped m.device target ≡ target' → back ≡ back' → Contains targets target'
      → (node_calling k back' targets).faults ≡ [] → FollowsWhere may m o s.facts k guarded b1 b2 (calling m target back) (node_calling k back' targets)
  call_covered target target' back back' targets guards is is' has none =
      unless_open k.sp k.pc _ (calling m target back) none
      (λ offset form free. record { leads = λ held. calls offset (site target' back') (in_map (λ t. site t back') target' targets has) form guards (call_is target target' back back' is is') })

  indirect_by : (p : PointerBits) (z : ℕ) → Contains (words_on m.device p) (wrapped m.device z) → (line : Option (List ℕ)) (found : Option (List ℕ)) → guarded ≡ true
      → targets_by m.device line p ≡ found → unless_listed line (wrapped m.device z) ≡ None → (indirect_call m.device found k).faults ≡ []
      → FollowsWhere may m o s.facts k guarded b1 b2 (calling m z (further m 1)) (indirect_call m.device found k)
  indirect_by p z has line None guards e unflagged none = unless_open k.sp k.pc _ _ none (λ offset form wrong. absurd (cc))
  indirect_by p z has line (Some targets) guards e unflagged none =
      call_covered z (wrapped m.device z) (further m 1) (node_further m.device k 1) targets guards refl (further_is 1)
      (targets_have m.device line p targets (wrapped m.device z) e has unflagged) none

  indirect_covered : (p : PointerBits) (z : ℕ) → Contains (words_on m.device p) (wrapped m.device z) → (A : List Entry) → guarded ≡ true
      → unless_listed (jump_line A m.pc) (wrapped m.device z) ≡ None
      → (indirect_call m.device (targets_by m.device (jump_line A k.pc) p) k).faults ≡ []
      → FollowsWhere may m o s.facts k guarded b1 b2 (calling m z (further m 1)) (indirect_call m.device (targets_by m.device (jump_line A k.pc) p) k)
  indirect_covered p z has A guards unflagged none =
      indirect_by p z has (jump_line A k.pc) (targets_by m.device (jump_line A k.pc) p) guards refl
      (subst (λ pc. unless_listed (jump_line A pc) (wrapped m.device z) ≡ None) at.place.pc unflagged) none

  pub icall_covered : (A : List Entry) → guarded ≡ true → unless_listed (jump_line A m.pc) (wrapped m.device (pair m 30)) ≡ None
      → (indirect_call m.device (targets_by m.device (jump_line A k.pc) (permitted (byte_known 0))) k).faults ≡ []
      → FollowsWhere may m o s.facts k guarded b1 b2 (calling m (pair m 30) (further m 1)) (indirect_call m.device (targets_by m.device (jump_line A k.pc) (permitted (byte_known 0))) k)
  icall_covered = indirect_covered (permitted (byte_known 0)) (pair m 30) z_has

  pub eicall_covered : (A : List Entry) → guarded ≡ true → unless_listed (jump_line A m.pc) (wrapped m.device (extended_word m)) ≡ None
      → (indirect_call m.device (targets_by m.device (jump_line A k.pc) (permitted (bits s EIND))) k).faults ≡ []
      → FollowsWhere may m o s.facts k guarded b1 b2 (calling m (extended_word m) (further m 1)) (indirect_call m.device (targets_by m.device (jump_line A k.pc) (permitted (bits s EIND))) k)
  eicall_covered = indirect_covered (permitted (bits s EIND)) (extended_word m) far_has

  -- ---- returns

  -- a row that needs a whole stack pointer
  pub closed : (form : SpForm) (pc : ℕ) (e : Effect) (go : ℕ → Raw) → (at_closed form pc go).faults ≡ []
      → ((offset : ℕ) → form ≡ Closed offset → (go offset).faults ≡ [] → FollowsWhere may m o s.facts k guarded b1 b2 e (go offset)) → FollowsWhere may m o s.facts k guarded b1 b2 e (at_closed form pc go)
  closed (Closed offset) pc e go none h = h offset refl none
  closed (Open offset high) pc e go none h = absurd (cc)

  leave_by : (kind : Kind) (offset pc : ℕ) (x : Exit) (e : Effect) → k.inst.kind ≡ kind → k.sp ≡ Closed offset → IsReturn may m b1 b2 x e → (node_returning x pc kind offset).faults ≡ []
      → FollowsWhere may m o s.facts k guarded b1 b2 e (node_returning x pc kind offset)
  leave_by kind (suc n) pc x e is form returns none = absurd (cc)
  leave_by Root zero pc x e is form returns none = absurd (cc)
  leave_by Call zero pc x e is form returns none = record { leads = λ held. leaves x refl (λ root. cc) form returns }
  leave_by (Vector v) zero pc x e is form returns none = record { leads = λ held. leaves x refl (λ root. cc) form returns }

  leave_covered : (x : Exit) (e : Effect) → IsReturn may m b1 b2 x e → (at_closed k.sp k.pc (node_returning x k.pc k.inst.kind)).faults ≡ []
      → FollowsWhere may m o s.facts k guarded b1 b2 e (at_closed k.sp k.pc (node_returning x k.pc k.inst.kind))
  leave_covered x e returns none =
      closed k.sp k.pc e (node_returning x k.pc k.inst.kind) none (λ offset form free. leave_by k.inst.kind offset k.pc x e refl form returns free)

  pub ret_covered : (at_closed k.sp k.pc (node_returning (ret_exit k) k.pc k.inst.kind)).faults ≡ []
      → FollowsWhere may m o s.facts k guarded b1 b2 (returning may m b1 b2) (at_closed k.sp k.pc (node_returning (ret_exit k) k.pc k.inst.kind))
  ret_covered =
      leave_covered (ret_exit k) (returning may m b1 b2)
      (record {
        pc = refl;
        registers = refl;
        flags = refl;
        i = at.place.i;
        sp = refl;
        closed = refl;
        enables = at.place.enables;
        stores = refl;
        pushes = refl;
        delay = refl;
      })

  pub reti_covered : (at_closed k.sp k.pc (node_returning (reti_exit k) k.pc k.inst.kind)).faults ≡ []
      → FollowsWhere may m o s.facts k guarded b1 b2 (reti_effect may m b1 b2) (at_closed k.sp k.pc (node_returning (reti_exit k) k.pc k.inst.kind))
  reti_covered =
      leave_covered (reti_exit k) (reti_effect may m b1 b2)
      (record {
        pc = refl;
        registers = refl;
        flags = with_bit_7_low m.sreg true;
        i = with_bit_same m.sreg 7 true (omega arith);
        sp = refl;
        closed = refl;
        enables = at.place.enables;
        stores = refl;
        pushes = refl;
        delay = refl;
      })

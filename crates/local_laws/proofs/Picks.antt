-- A node that splits: its instruction neither calls nor returns, r30's byte is among the picks, and the row with that byte picked covers
-- the step.
use Rattle.std.proofs.Common.{◌≡◌, refl, sym, subst, ℕ, zero, suc, ◌+◌, ◌<◌, ⊎_elim, Bool, true, false, ◌&&◌, nat_lt, nat_le, if◌then◌else◌, List, [], ◌∷◌, map, Option, Some, None, Contains, arith}
use Rattle.std.proofs.lemmas.Bool.{cases_lt}
use Rattle.std.proofs.lemmas.Bool.Decides.{nat_tests}
use Rattle.std.proofs.lemmas.List.Elements.{Contains-append_left, Contains-append_right, Contains-append_cases}
use Rattle.basics.specs.Booleans.{all_three}
use Rattle.basics.specs.Items.{none_in, first_in, first_or_further}
use Rattle.basics.specs.Lists.{both_empty}
use Rattle.abs_alu.proofs.AllLaws.{same_within}
use Rattle.avr_model.specs.Devices.{Image, words_of, device_of, wrapped}
use Rattle.avr_model.specs.declared.device.Device.{Device}
use Rattle.avr_model.specs.declared.assumption.Entry.{Entry}
use Rattle.avr_model.specs.declared.effect.Effect.{Effect}
use Rattle.avr_model.specs.declared.instruction.Instr.{Instr}
use Rattle.avr_model.specs.declared.instruction.Instr.TheVariants as i
use Rattle.avr_model.specs.Sites.{instruction_at, adds_low, adds_high, is_some_that, ijmp_from, table_site}
use Rattle.avr_model.specs.State.{State, register}
use Rattle.bit_domain.specs.TriByte.{byte_known}
use Rattle.bit_domain.proofs.AllLaws.{tests_tell_members}
use Rattle.sp_domain.specs.Tags.{Origin}
use Rattle.abs_state.specs.declared.state.AbsState.{AbsState}
use Rattle.abs_state.specs.Stands.{ByteStands}
use Rattle.abs_state.proofs.AllLaws.{states_are_ordered}
use Rattle.node_keys.specs.declared.keys.NodeKey.{NodeKey}
use Rattle.node_keys.specs.declared.keys.Kind.{Kind}
use Rattle.node_keys.specs.Keys.{offset_of}
use Rattle.local_rules.specs.Raw.{Raw, all_of}
use Rattle.local_rules.specs.Registers.{value, before}
use Rattle.local_rules.specs.Local.{row_of, row_at, fetched, below, picks, picking, paired_row, row_by, unlined, split_site}
use Rattle.local_rules.specs.Permitted.{may_be}
use Rattle.local_rules.specs.Cover.{Follows, stays, calls, leaves, effect_by, CoversStep}
use Rattle.avr_model.specs.Step.{is_guarding}
use Rattle.local_laws.proofs.Bare.{IsBare, InBareFrame}
use Rattle.local_laws.proofs.PairedCover.{left_bare}
use Rattle.pair_cuts.specs.Cuts.{with_index, pick_cut}
use Rattle.pair_laws.proofs.AllLaws.{picks_are_cut}
use Rattle.pair_domain.specs.declared.facts.PairFacts.{PairFacts}
use Rattle.local_laws.proofs.Bytes.{byte_in_list}
use Rattle.local_laws.proofs.Targets.{in_filter}
use Rattle.local_laws.proofs.WriteValues.{ReachesNode}
use Rattle.local_laws.proofs.PointerWrites.{by_first, by_rest}
use Rattle.local_laws.proofs.MonotoneValues.{IsLess, IsStateLess, registers_set, bits_less, node_less, less_node}
use Rattle.local_laws.proofs.Quiet.{Quiet}
use Rattle.local_rules.specs.Site.{Task, site_at}

-- ---- the site

pub unlined_some : (A : List Entry) (x : Option ℕ) (jump : ℕ) → unlined A x ≡ Some jump → (y : ℕ) × (x ≡ Some y)
unlined_some A None jump e = absurd (cc)
unlined_some A (Some y) jump e = (y, refl)

pub site_adds : (image : Image) (a jump : ℕ) → table_site image a ≡ Some jump → is_some_that adds_low (instruction_at image a) ≡ true
unfolding table_site
site_adds image a jump e = by (is_some_that adds_low (instruction_at image a)) (is_some_that adds_high (instruction_at image (a + 1))) e
  where
    by : (low high : Bool) → (if low && high then ijmp_from image 16 (wrapped (device_of image) (a + 2)) else None) ≡ Some jump → low ≡ true
    by true high e = refl
    by false high e = absurd (cc)

-- the node lies in flash, and its instruction adds to r30
pub splits_at : (task : Task) (pc : ℕ) (pick : Option ℕ) (jump : ℕ) → split_site task pc pick ≡ Some jump
    → (nat_lt pc (words_of (device_of task.flash)) ≡ true) × (is_some_that adds_low (fetched (device_of task.flash) task.flash pc) ≡ true)
splits_at task pc (Some byte) jump e = absurd (cc)
splits_at task pc None jump e = by (nat_lt pc (words_of (device_of task.flash))) e
  where
    by : (inside : Bool) → (if inside then unlined task.assumptions (table_site task.flash pc) else None) ≡ Some jump
        → (inside ≡ true) × (is_some_that adds_low (if inside then instruction_at task.flash pc else None) ≡ true)
    by true e = let found = unlined_some task.assumptions (table_site task.flash pc) jump e in (refl, site_adds task.flash pc found.0 found.1)
    by false e = absurd (cc)

module _ (device : Device) (task : Task) (scratch : Bool) (k : NodeKey) where
  adds_quiet : (s : AbsState) (x : Instr) → adds_low x ≡ true → Quiet (row_of task scratch (site_at device k s) x)
  adds_quiet s (i.Immediate op d n) e = (refl, refl)
  adds_quiet s (i.Movw d r) e = absurd (cc)
  adds_quiet s (i.Muls d r) e = absurd (cc)
  adds_quiet s (i.Mulsu d r) e = absurd (cc)
  adds_quiet s (i.Fmul d r) e = absurd (cc)
  adds_quiet s (i.Fmuls d r) e = absurd (cc)
  adds_quiet s (i.Fmulsu d r) e = absurd (cc)
  adds_quiet s (i.Binary op d r) e = absurd (cc)
  adds_quiet s (i.Unary op d) e = absurd (cc)
  adds_quiet s (i.Adiw d n) e = absurd (cc)
  adds_quiet s (i.Sbiw d n) e = absurd (cc)
  adds_quiet s (i.Bset n) e = absurd (cc)
  adds_quiet s (i.Bclr n) e = absurd (cc)
  adds_quiet s (i.Bld d b) e = absurd (cc)
  adds_quiet s (i.Bst d b) e = absurd (cc)
  adds_quiet s (i.Ldd d b q) e = absurd (cc)
  adds_quiet s (i.Std b q r) e = absurd (cc)
  adds_quiet s (i.Lds d a) e = absurd (cc)
  adds_quiet s (i.Sts a r) e = absurd (cc)
  adds_quiet s (i.Ld d p) e = absurd (cc)
  adds_quiet s (i.St p r) e = absurd (cc)
  adds_quiet s (i.LpmZ d) e = absurd (cc)
  adds_quiet s (i.ElpmZ d) e = absurd (cc)
  adds_quiet s (i.LpmZPlus d) e = absurd (cc)
  adds_quiet s (i.ElpmZPlus d) e = absurd (cc)
  adds_quiet s i.Lpm e = absurd (cc)
  adds_quiet s i.Elpm e = absurd (cc)
  adds_quiet s (i.Pop d) e = absurd (cc)
  adds_quiet s (i.Push r) e = absurd (cc)
  adds_quiet s (i.In d a) e = absurd (cc)
  adds_quiet s (i.Out a r) e = absurd (cc)
  adds_quiet s (i.Cbi a b) e = absurd (cc)
  adds_quiet s (i.Sbi a b) e = absurd (cc)
  adds_quiet s i.Ijmp e = absurd (cc)
  adds_quiet s i.Icall e = absurd (cc)
  adds_quiet s i.Eijmp e = absurd (cc)
  adds_quiet s i.Eicall e = absurd (cc)
  adds_quiet s i.Ret e = absurd (cc)
  adds_quiet s i.Reti e = absurd (cc)
  adds_quiet s (i.Jmp target) e = absurd (cc)
  adds_quiet s (i.Call target) e = absurd (cc)
  adds_quiet s (i.Rjmp target) e = absurd (cc)
  adds_quiet s (i.Rcall target) e = absurd (cc)
  adds_quiet s (i.Brbs n target) e = absurd (cc)
  adds_quiet s (i.Brbc n target) e = absurd (cc)
  adds_quiet s (i.Sbic a b) e = absurd (cc)
  adds_quiet s (i.Sbis a b) e = absurd (cc)
  adds_quiet s (i.Sbrc r b) e = absurd (cc)
  adds_quiet s (i.Sbrs r b) e = absurd (cc)
  adds_quiet s i.Nop e = absurd (cc)
  adds_quiet s i.Sleep e = absurd (cc)
  adds_quiet s i.Break e = absurd (cc)
  adds_quiet s i.Wdr e = absurd (cc)

  -- this holds with pairs
  adds_paired : (s : AbsState) (x : Instr) → adds_low x ≡ true → Quiet (paired_row task scratch (site_at device k s) x)
  adds_paired s (i.Immediate op d n) e = (refl, refl)
  adds_paired s x e = absurd (cc)

  -- an instruction that adds to r30 neither calls nor returns
  pub at_quiet : (s : AbsState) (x : Option Instr) → is_some_that adds_low x ≡ true → Quiet (row_at task scratch (site_at device k s) x)
  at_quiet s None e = absurd (cc)
  at_quiet s (Some x) e = by s.facts
    where
      by : (f : Option PairFacts) → Quiet (row_by f task scratch (site_at device k s) x)
      by None = adds_quiet (before x s) x e
      by (Some f) = adds_paired s x e

-- ---- the picks

in_below : (n x : ℕ) → x < n → Contains (below n) x
unfolding below
in_below zero x lt = absurd (omega (arith, lt))
in_below (suc n) x lt =
    ⊎_elim
    (λ less. Contains-append_left (below n) (n ∷ []) x (in_below n x less))
    (λ over. let is : n ≡ x = omega (arith, lt, over) in Contains-append_right (below n) (n ∷ []) x (subst (Contains (n ∷ [])) is (first_in n [])))
    (cases_lt x n)

pub below_small : (n x : ℕ) → Contains (below n) x → x < n
unfolding below
below_small zero x h = absurd (none_in x h)
below_small (suc n) x h =
    ⊎_elim
    (λ before. let lt = below_small n x before in omega (arith, lt))
    (λ last. ⊎_elim (λ e. omega (arith, e)) (λ none. absurd (none_in x none)) (first_or_further n x [] last))
    (Contains-append_cases (below n) (n ∷ []) x h)

-- with the same byte picked, the lesser state stays below the greater
pub picked_less : (kind : Kind) (offset byte : ℕ) (s t : AbsState) → IsStateLess kind offset s t → IsStateLess kind offset (with_index byte s) (with_index byte t)
picked_less kind offset byte s t le =
    let at : IsLess kind (value s 30) (value t 30) = le.registers.each 30 in
    record {
      registers = registers_set kind s.registers t.registers le.registers 30 _ _
          (bits_less kind (value s 30).tag (value t 30).tag (byte_known byte) (byte_known byte) at.good at.within.tag (same_within (byte_known byte)));
      flags = le.flags;
      slots = le.slots;
      facts = le.facts;
    }

-- ---- the machine is at one of them

module _ {may : Bool} (m : State) (o : Origin) (k : NodeKey) (s : AbsState) (at : InBareFrame may m o k s) where
  -- r30's byte
  abbrev pub byte : ℕ
  byte = register m 30

  byte_small : byte < 256
  byte_small = byte_in_list m.registers 30 at.machine.register_bytes

  byte_stands : ByteStands o (value s 30) byte
  byte_stands = at.stands.registers 30 (omega arith)

  pub in_picks : Contains (picks s) byte
  in_picks =
      let low : nat_le (value s 30).low byte ≡ true = grind (arith, nat_tests, byte_stands.low) in
      let high : nat_le byte (value s 30).high ≡ true = grind (arith, nat_tests, byte_stands.high) in
      in_filter (may_be (value s 30)) byte (below 256) (all_three _ _ _ ((tests_tell_members.bytes (value s 30).bits byte).1 byte_stands.bits) low high) (in_below 256 byte byte_small)

  pub picked_at : (t : AbsState) × (pick_cut byte s ≡ Some t) × InBareFrame may m o (picking k byte) t
  picked_at =
      let less : IsStateLess k.inst.kind (offset_of k.sp) (with_index byte s) (with_index byte s) =
      picked_less k.inst.kind (offset_of k.sp) byte s s (node_less k s s at.node at.node (states_are_ordered.same s)) in
      let node : IsBare m.device (picking k byte) (with_index byte s) =
      less_node (picking k byte) (with_index byte s) (with_index byte s) at.node.word at.node.small at.node.masks at.node.fits byte_small less in
      let found = picks_are_cut.keeps byte m byte_small refl o s (offset_of k.sp) at.node.formed (record { stands = at.stands; facts = at.facts }) in (
        found.0,
        found.1.0,
        record {
          machine = at.machine;
          node = left_bare (picking k byte) (with_index byte s) found.0 node (picks_are_cut.leaves byte s found.0 (offset_of k.sp) at.node.formed found.1.0);
          place = record { pc = at.place.pc; enables = at.place.enables; i = at.place.i; delay = at.place.delay; sp = at.place.sp };
          stands = found.1.1.stands;
          facts = found.1.1.facts;
          banks = at.banks;
          root = at.root;
          top = at.top;
          base_word = at.base_word;
          room = at.room;
          sees = at.sees;
        },
      )

-- ---- what one of several reaches, all reach

faultless_in : (f : ℕ → Raw) (xs : List ℕ) (x : ℕ) → Contains xs x → (all_of (map f xs)).faults ≡ [] → (f x).faults ≡ []
faultless_in f [] x h clean = absurd (none_in x h)
faultless_in f (y ∷ ys) x h clean =
    let none = both_empty (f y).faults (all_of (map f ys)).faults clean in
    ⊎_elim (λ e. subst (λ (z : ℕ). (f z).faults ≡ []) (sym e) none.0) (λ rest. faultless_in f ys x rest none.1) (first_or_further y x ys h)

module _ {may : Bool} (m : State) (o : Origin) (k : NodeKey) (guarded : Bool) (e : Effect) where
  reached_in : (f : ℕ → Raw) (xs : List ℕ) (x : ℕ) → Contains xs x → ReachesNode may m o None k guarded e (f x) → ReachesNode may m o None k guarded e (all_of (map f xs))
  reached_in f [] x h reached = absurd (none_in x h)
  reached_in f (y ∷ ys) x h reached =
      ⊎_elim
      (λ same. by_first m o None k guarded e (f y) (map f ys) (subst (λ (z : ℕ). ReachesNode may m o None k guarded e (f z)) same reached))
      (λ rest. by_rest m o None k guarded e (f y) (map f ys) (reached_in f ys x rest reached))
      (first_or_further y x ys h)

  -- without call or return the successors are reached
  reached_by : (byte b1 b2 : ℕ) (r : Raw) → Quiet r → Follows may m o (picking k byte) guarded b1 b2 e r → ReachesNode may m o None k guarded e r
  reached_by byte b1 b2 r quiet (stays to present inst lands) = record { to = to; present = present; inst = inst; at_node = record { lands = λ held. lands } }
  reached_by byte b1 b2 r quiet (calls offset site present closed is made) = absurd (none_in site (subst (λ xs. Contains xs site) quiet.0 present))
  reached_by byte b1 b2 r quiet (leaves x is kind closed return) = absurd (let e = sym quiet.1 in let no = is in cc)

-- what one part covers, all parts cover
pub all_covered : (task : Task) (m : State) (o : Origin) (k : NodeKey) (b1 b2 : ℕ) (f : ℕ → Raw) (xs : List ℕ) (x : ℕ) → Contains xs x → Quiet (f x)
    → (instr : Option Instr) → CoversStep task m o (picking k x) b1 b2 instr (f x) → CoversStep task m o k b1 b2 instr (all_of (map f xs))
all_covered task m o k b1 b2 f xs x h quiet None covered = λ clean. covered (faultless_in f xs x h clean)
all_covered task m o k b1 b2 f xs x h quiet (Some instr) covered = λ clean unflagged.
    let guarded : Bool = is_guarding task.flash task.assumptions m.pc instr in
    let e : Effect = effect_by task m instr b1 b2 in
    let found = reached_in m o k guarded e f xs x h (reached_by m o k guarded e x b1 b2 (f x) quiet (covered (faultless_in f xs x h clean) unflagged)) in
    stays found.to found.present found.inst (found.at_node.lands tt)

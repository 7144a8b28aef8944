-- Rows are monotone if both states follow pairs.
use Rattle.std.proofs.Common.{◌≡◌, refl, sym, subst, subst₂, ℕ, ◌+◌, ◌<◌, Bool, true, false, List, [], ◌∷◌, Option, Some, None, if◌then◌else◌, Contains, ⊎_elim, nat_lt, ltb-true}
use Rattle.std.proofs.lemmas.List.Elements.{Contains-append_cases}
use Rattle.basics.specs.Items.{none_in, first_in, further_in}
use Rattle.avr_model.specs.Devices.{Image, wrapped, limit_of}
use Rattle.avr_model.specs.Image.{word_at}
use Rattle.avr_model.specs.Marks.{marks}
use Rattle.avr_model.specs.Table.{length_of}
use Rattle.avr_model.specs.Text.{near}
use Rattle.avr_model.specs.declared.device.Device.{Device}
use Rattle.avr_model.specs.declared.instruction.Instr.{Instr}
use Rattle.avr_model.specs.declared.instruction.Instr.TheVariants as i
use Rattle.avr_model.specs.declared.instruction.BinaryOp.TheVariants as binary
use Rattle.avr_model.specs.declared.instruction.Pointer.{Pointer}
use Rattle.avr_model.specs.Sites.{pointer_register}
use Rattle.avr_model.specs.Written.{written}
use Rattle.sp_domain.specs.Tags.{HasByteNumbers}
use Rattle.pair_domain.specs.declared.facts.PairFacts.{PairFacts}
use Rattle.abs_state.specs.declared.state.AbsState.{AbsState}
use Rattle.abs_state.specs.Order.{IsStateWithin}
use Rattle.abs_state.specs.Formed.{IsFormed}
use Rattle.abs_state.specs.FlagsSet.{sets_flags, sets_carry}
use Rattle.abs_state.specs.Hulls.{IsInHulls}
use Rattle.abs_state.proofs.AllLaws.{states_are_ordered}
use Rattle.pair_cuts.specs.Cuts.{flag_cut, bit_cut, equal_cut}
use Rattle.pair_rules.specs.Fits.{HasRegisters, IsPlain}
use Rattle.pair_rules.specs.Refined.{refined}
use Rattle.pair_laws.proofs.AllLaws.{refined_is_ordered, flags_are_cut, bits_are_cut, equals_are_cut}
use Rattle.node_keys.specs.declared.keys.NodeKey.{NodeKey}
use Rattle.node_keys.specs.Keys.{offset_of}
use Rattle.local_rules.specs.declared.local.Node.{Node}
use Rattle.local_rules.specs.Raw.{Raw, nowhere, all_of, off_table, next, further}
use Rattle.local_rules.specs.Registers.{value, before}
use Rattle.local_rules.specs.Flow.{going_where}
use Rattle.local_rules.specs.HighBytes.{view_by}
use Rattle.local_rules.specs.Settling.{node_where, settled_state}
use Rattle.local_rules.specs.Local.{step_before, pointer_moved, plain_row, paired_row, cut_branch, cut_skip, refined_nodes, refining, storing, refined_if, paired_store}
use Rattle.local_rules.specs.Cover.{IsKey}
use Rattle.local_laws.proofs.Bare.{IsBare, bare_key}
use Rattle.local_laws.proofs.Members.{each_of}
use Rattle.local_laws.proofs.MonotoneAlu.{reg}
use Rattle.local_laws.proofs.MonotoneFields.{InstrFits}
use Rattle.local_laws.proofs.MonotoneRaw.{IsMetAbove, LeadsLess, nowhere_less, none_less, both_less, further_small, wrapped_small, next_key}
use Rattle.local_laws.proofs.MonotoneReads.{pointed_constants, pointed_frames}
use Rattle.local_laws.proofs.MonotoneRows.{moved_less, pair_less_at, pointer_small}
use Rattle.local_laws.proofs.SettledMonotone.{plain_less, state_settled, settled_bare, settled_facts}
use Rattle.local_laws.proofs.MonotoneValues.{IsStateLess, AreRegistersLess, node_less, less_node, less_within, forgetting_both}
use Rattle.local_laws.proofs.MonotoneWrites.{pointer_less}
use Rattle.local_laws.proofs.PairedCover.{in_refined, left_bare}
use Rattle.local_laws.proofs.PairedPlain.{row_plain}
use Rattle.local_laws.proofs.PairedStep.{IsStored, stored_same, same_moved}
use Rattle.local_laws.proofs.PlainRows.{IsRefinedInstr}
use Rattle.local_laws.proofs.Quiet.{Quiet, pointer_quiet}
use Rattle.local_rules.specs.Site.{Task, site_at}

-- ---- refined nodes

-- the plain node of a refined one
pub record IsOf (image : Image) (instr : Instr) (s : AbsState) (nodes : List Node) (x : Node) : Type 0 where
  pub to : Node
  pub member : Contains nodes to
  pub same : x.key ≡ to.key
  pub left : refined (marks image) image instr s to.state ≡ Some x.state

of_where : (image : Image) (instr : Instr) (s : AbsState) (nodes : List Node) (n : Node) → Contains nodes n → (left : Option AbsState) → refined (marks image) image instr s n.state ≡ left
    → (x : Node) → Contains (node_where n.key left) x → IsOf image instr s nodes x
of_where image instr s nodes n member None e x h = absurd (none_in x h)
of_where image instr s nodes n member (Some u) e x h =
    each_of (IsOf image instr s nodes) (record { key = n.key; state = u }) [] (record { to = n; member = member; same = refl; left = e }) (λ y j. absurd (none_in y j)) x h

pub from_refined : (image : Image) (instr : Instr) (s : AbsState) (all nodes : List Node) → ((n : Node) → Contains nodes n → Contains all n) → (x : Node)
    → Contains (refined_nodes image instr s nodes) x → IsOf image instr s all x
from_refined image instr s all [] within x h = absurd (none_in x h)
from_refined image instr s all (n ∷ ns) within x h =
    ⊎_elim (of_where image instr s all n (within n (first_in n ns)) (refined (marks image) image instr s n.state) refl x)
    (from_refined image instr s all ns (λ m j. within m (further_in n m ns j)) x)
    (Contains-append_cases (node_where n.key (refined (marks image) image instr s n.state)) (refined_nodes image instr s ns) x h)

-- a refined state is one of a node
pub refined_bare : {device : Device} (image : Image) (instr : Instr) (n : ℕ) (s : AbsState) (k : NodeKey) (t u : AbsState) → HasRegisters instr → IsFormed s n → IsBare device k t
    → refined (marks image) image instr s t ≡ Some u → IsBare device k u
refined_bare image instr n s k t u has formed h e =
    let like = refined_is_ordered.like (marks image) image instr s t u e in
    record {
      word = h.word;
      small = h.small;
      masks = h.masks;
      fits = h.fits;
      pick = h.pick;
      formed = refined_is_ordered.formed (marks image) image instr n (offset_of k.sp) s t u has formed h.formed e;
      tags = refined_is_ordered.tags (marks image) image instr n (offset_of k.sp) s t u has formed h.formed h.tags e;
      carry_bytes = subst (λ f. HasByteNumbers f.carry) (sym like.flags) h.carry_bytes;
      untagged = λ root. refined_is_ordered.untagged (marks image) image instr n (offset_of k.sp) s t u has formed h.formed (h.untagged root) e;
    }

-- ---- where something may be left

-- the refined lesser state is below the refined greater one, if anything is left
abbrev pub IsLeftLess : Device → NodeKey → Option AbsState → Option AbsState → Type 0
IsLeftLess device k x y = (u : AbsState) → x ≡ Some u → IsBare device k u × ((v : AbsState) × ((y ≡ Some v) × IsStateWithin u v))

turned_bare : {device : Device} (k : NodeKey) (s : AbsState) (pc : ℕ) → pc < limit_of device → IsBare device k s → IsBare device (off_table k pc) s
turned_bare k s pc lt h =
    record {
      word = lt;
      small = h.small;
      masks = h.masks;
      fits = h.fits;
      pick = tt;
      formed = h.formed;
      tags = h.tags;
      carry_bytes = h.carry_bytes;
      untagged = h.untagged;
    }

where_less : {device : Device} (k : NodeKey) (x y : Option AbsState) (pc : ℕ) → pc < limit_of device → IsLeftLess device k x y → LeadsLess device k.inst (going_where k x pc) (going_where k y pc)
where_less k None None pc lt h = nowhere_less k.inst []
where_less k None (Some v) pc lt h = nowhere_less k.inst (record { key = off_table k pc; state = v } ∷ [])
where_less {device = device} k (Some u) y pc lt h =
    let left = h u refl in
    let v : AbsState = left.1.0 in
    let present : Contains (going_where k y pc).moves (record { key = off_table k pc; state = v }) =
    subst (λ (z : Option AbsState). Contains (going_where k z pc).moves (record { key = off_table k pc; state = v })) (sym left.1.1.0) (first_in (record { key = off_table k pc; state = v }) []) in
    subst (λ (z : Option AbsState). LeadsLess device k.inst (going_where k (Some u) pc) (going_where k z pc)) (sym left.1.1.0)
    (λ e. record {
      faultless = refl;
      moves =
          each_of (IsMetAbove device k.inst (record { key = off_table k pc; state = v } ∷ [])) (record { key = off_table k pc; state = u }) []
          (record {
            same = refl;
            node = turned_bare k u pc lt left.0;
            below = record { state = v; present = first_in (record { key = off_table k pc; state = v }) []; above = left.1.1.1 };
          }) (λ n j. absurd (none_in n j));
      calls = λ site j. j;
      exit = refl;
    })

two_less : {device : Device} (k : NodeKey) (x x' y y' : Option AbsState) (p q : ℕ) → p < limit_of device → q < limit_of device → IsLeftLess device k x y → IsLeftLess device k x' y'
    → LeadsLess device k.inst (all_of (going_where k x p ∷ going_where k x' q ∷ [])) (all_of (going_where k y p ∷ going_where k y' q ∷ []))
two_less k x x' y y' p q lt lt' h h' =
    both_less k.inst (going_where k x p) (going_where k y p) (going_where k x' q ∷ []) (going_where k y' q ∷ []) (where_less k x y p lt h)
    (both_less k.inst (going_where k x' q) (going_where k y' q) [] [] (where_less k x' y' q lt' h') (none_less k.inst))

-- ---- two states

module _ (device : Device) (task : Task) (k : NodeKey) (s t : AbsState) (low : IsBare device k s) (high : IsBare device k t) (within : IsStateWithin s t)
    (hulls : IsInHulls s) (f g : PairFacts) (known : s.facts ≡ Some f) (known' : t.facts ≡ Some g) where
  abbrev at : IsKey device k
  at = bare_key k s low

  abbrev Less : Raw → Raw → Type 0
  Less a b = LeadsLess device k.inst a b

  le : IsStateLess k.inst.kind (offset_of k.sp) s t
  le = node_less k s t low high within

  rows_less : (scratch : Bool) (instr : Instr) → InstrFits instr → Less (plain_row task scratch (site_at device k s) instr) (plain_row task scratch (site_at device k t) instr)
  rows_less = plain_less device task k s t low high within

  -- the successors of the greater are nodes too
  plain_nodes : (scratch : Bool) (instr : Instr) → InstrFits instr → Less (plain_row task scratch (site_at device k t) instr) (plain_row task scratch (site_at device k t) instr)
  plain_nodes = plain_less device task k t t high high (states_are_ordered.same t)

  refining_less : (scratch : Bool) (instr : Instr) → InstrFits instr → HasRegisters instr → IsRefinedInstr instr
      → Less (refining task.flash instr s (plain_row task scratch (site_at device k s) instr)) (refining task.flash instr t (plain_row task scratch (site_at device k t) instr))
  refining_less scratch instr fits has is clean =
      let below = rows_less scratch instr fits clean in
      let above = plain_nodes scratch instr fits clean in
      record {
        faultless = below.faultless;
        moves = λ x member.
            let of = from_refined task.flash instr s (plain_row task scratch (site_at device k s) instr).moves (plain_row task scratch (site_at device k s) instr).moves (λ n j. j) x member in
            let met = below.moves of.to of.member in
            let top : Node = record { key = of.to.key; state = met.below.state } in
            let node = (above.moves top met.below.present).node in
            let more =
            refined_is_ordered.more (marks task.flash) task.flash instr (offset_of k.sp) (offset_of of.to.key.sp) s t of.to.state met.below.state x.state has low.formed high.formed met.node.formed node.formed
            (row_plain device task scratch k s low.formed.count_registers instr is has of.to of.member)
            (row_plain device task scratch k t high.formed.count_registers instr is has top met.below.present) within met.below.above of.left in
            let is_met : IsMetAbove device k.inst (refining task.flash instr t (plain_row task scratch (site_at device k t) instr)).moves (record { key = of.to.key; state = x.state }) = record {
              same = met.same;
              node = refined_bare task.flash instr (offset_of k.sp) s of.to.key of.to.state x.state has low.formed met.node of.left;
              below = record {
                state = more.0;
                present = in_refined task.flash instr t (plain_row task scratch (site_at device k t) instr).moves top more.0 met.below.present more.1;
                above = more.2;
              };
            } in
            subst (λ (key : NodeKey). IsMetAbove device k.inst (refining task.flash instr t (plain_row task scratch (site_at device k t) instr)).moves (record { key = key; state = x.state })) (sym of.same) is_met;
        calls = below.calls;
        exit = below.exit;
      }

  -- ---- cuts

  flag_left_less : (n : ℕ) (b : Bool) → n < 7 → IsLeftLess device k (flag_cut n b s) (flag_cut n b t)
  flag_left_less n b lt u e =
      (left_bare k s u low (flags_are_cut.leaves n b lt s u (offset_of k.sp) low.formed e), flags_are_cut.more n b lt s t u (offset_of k.sp) low.formed high.formed within e)

  bit_left_less : (r bit : ℕ) (on : Bool) → r < 32 → bit < 8 → IsLeftLess device k (bit_cut r bit on s) (bit_cut r bit on t)
  bit_left_less r bit on lt lt' u e =
      (left_bare k s u low (bits_are_cut.leaves r bit on lt lt' s u (offset_of k.sp) low.formed e), bits_are_cut.more r bit on lt lt' s t u (offset_of k.sp) low.formed high.formed within e)

  equal_left_less : (d r : ℕ) (b : Bool) → d < 32 → r < 32 → IsLeftLess device k (equal_cut d r b s) (equal_cut d r b t)
  equal_left_less d r b lt lt' u e =
      (left_bare k s u low (equals_are_cut.leaves d r b lt lt' s u (offset_of k.sp) low.formed e), equals_are_cut.more d r b s t u (offset_of k.sp) g lt lt' low.formed high.formed known' hulls within e)

  branch_cut_less : (n set clear : ℕ) (small : Bool) (p q : Raw) → nat_lt n 7 ≡ small → set < limit_of device → clear < limit_of device → Less p q
      → Less (if small then cut_branch n k s set clear else p) (if small then cut_branch n k t set clear else q)
  branch_cut_less n set clear true p q e lt lt' h =
      two_less k (flag_cut n false s) (flag_cut n true s) (flag_cut n false t) (flag_cut n true t) clear set lt' lt (flag_left_less n false (ltb-true n 7 e)) (flag_left_less n true (ltb-true n 7 e))
  branch_cut_less n set clear false p q e lt lt' h = h

  skip_less : (x x' y y' : Option AbsState) → IsLeftLess device k x y → IsLeftLess device k x' y' → Less (cut_skip task.flash (site_at device k s) x x') (cut_skip task.flash (site_at device k s) y y')
  skip_less x x' y y' h h' =
      two_less k x' x y' y (further device k 1) (further device k (1 + length_of (word_at task.flash (k.pc + 1)))) (further_small device k 1) (further_small device k (1 + length_of (word_at task.flash (k.pc + 1)))) h' h

  -- ---- stores

  stored_less : (scratch : Bool) (instr : Instr) → InstrFits instr → IsStored instr
      → Less (refining task.flash instr s (plain_row task scratch (site_at device k s) instr)) (refining task.flash instr t (plain_row task scratch (site_at device k t) instr))
  stored_less scratch instr fits is =
      subst₂ Less (sym (stored_same task.flash s f instr is known (plain_row task scratch (site_at device k s) instr)))
      (sym (stored_same task.flash t g instr is known' (plain_row task scratch (site_at device k t) instr))) (rows_less scratch instr fits)

  module _ (p : Pointer) (r : ℕ) where
    abbrev instr : Instr
    instr = i.St p r

    abbrev moved : AbsState → AbsState
    moved u = record (before instr u) { registers = pointer_moved (view_by device k) p u }

    moved_both : (u v : AbsState) → IsBare device k u → IsStateLess k.inst.kind (offset_of k.sp) u v → IsStateLess k.inst.kind (offset_of k.sp) (moved u) (moved v)
    moved_both u v bare_u h =
        let ends = forgetting_both k.inst.kind (offset_of k.sp) (written instr) (sets_flags instr) (sets_carry instr) u v h in
        record {
          registers =
              subst₂ (AreRegistersLess k.inst.kind) (same_moved (view_by device k) p instr u) (same_moved (view_by device k) p instr v) (moved_less device task k (bare_key k u bare_u) (before instr u) (before instr v) ends p);
          flags = ends.flags;
          slots = ends.slots;
          facts = ends.facts;
        }

    pub moved_bare : (u : AbsState) → IsBare device k u → IsBare device k (moved u)
    moved_bare u h = less_node k (moved u) (moved u) h.word h.small h.masks h.fits h.pick (moved_both u u h (node_less k u u h h (states_are_ordered.same u)))

    -- settling keeps facts on pairs
    settled_plain : (u v : AbsState) → settled_state (view_by device k) (moved u) ≡ Some v → IsPlain task.flash instr u v
    settled_plain u v e = record { facts = settled_facts (view_by device k) (moved u) v e; value = tt }

    nowhere_below : (q : Raw) → Quiet q → Less nowhere q
    nowhere_below q quiet e = record { faultless = refl; moves = λ to j. absurd (none_in to j); calls = λ site j. absurd (none_in site j); exit = sym quiet.1 }

    storing_quiet : (y : Option AbsState) → Quiet (storing task (site_at device k t) p r y)
    storing_quiet None = (refl, refl)
    storing_quiet (Some u) = pointer_quiet device task t (pointer_register p) (step_before p) k.pc (next device k) u (value t r)

    -- what is left of the settled state with the moved pointer, refined
    abbrev left : AbsState → Option AbsState → Option AbsState
    left u x = refined_if task instr u x

    storing_less : (v w : AbsState) → settled_state (view_by device k) (moved s) ≡ Some v → settled_state (view_by device k) (moved t) ≡ Some w → IsStateWithin v w
        → (x : Option AbsState) → refined (marks task.flash) task.flash instr s v ≡ x
        → Less (storing task (site_at device k s) p r x) (storing task (site_at device k t) p r (refined (marks task.flash) task.flash instr t w))
    storing_less v w e e' under None is = nowhere_below _ (storing_quiet (refined (marks task.flash) task.flash instr t w))
    storing_less v w e e' under (Some u) is =
        let low_moved = settled_bare k (view_by device k) (moved s) v (moved_bare s low) e in
        let high_moved = settled_bare k (view_by device k) (moved t) w (moved_bare t high) e' in
        let more =
        refined_is_ordered.more (marks task.flash) task.flash instr (offset_of k.sp) (offset_of k.sp) s t v w u tt low.formed high.formed low_moved.formed high_moved.formed
        (settled_plain s v e) (settled_plain t w e') within under is in
        let lower = refined_bare task.flash instr (offset_of k.sp) s k v u tt low.formed low_moved is in
        let upper = refined_bare task.flash instr (offset_of k.sp) t k w more.0 tt high.formed high_moved more.1 in
        subst (λ (y : Option AbsState). Less (storing task (site_at device k s) p r (Some u)) (storing task (site_at device k t) p r y)) (sym more.1)
        (pointer_less device (next device k) (next_key device k at) u more.0 (node_less k u more.0 lower upper more.2) k.pc (value s r) (value t r) (reg device k at s t le r) task s t
        (pointer_register p) (step_before p)
        (pointed_constants device k at s t le (pointer_register p) (step_before p)) (pointed_frames device k at s t le (pointer_register p) (step_before p))
        (pair_less_at device task k at s t le (pointer_register p) (pointer_small p)))

    pub store_less : Less (paired_store task (site_at device k s) p r) (paired_store task (site_at device k t) p r)
    store_less = by (settled_state (view_by device k) (moved s)) refl
      where
        by : (x : Option AbsState) → settled_state (view_by device k) (moved s) ≡ x
            → Less (storing task (site_at device k s) p r (left s x)) (storing task (site_at device k t) p r (left t (settled_state (view_by device k) (moved t))))
        by None e = nowhere_below _ (storing_quiet (left t (settled_state (view_by device k) (moved t))))
        by (Some v) e =
            let above = state_settled k.inst.kind (offset_of k.sp) (view_by device k) (moved s) (moved t) v (moved_both s t low le) e in
            subst (λ (y : Option AbsState). Less (storing task (site_at device k s) p r (left s (Some v))) (storing task (site_at device k t) p r (left t y))) (sym above.1.0)
            (storing_less v above.0 e above.1.0 (less_within k.inst.kind (offset_of k.sp) v above.0 above.1.1) (refined (marks task.flash) task.flash instr s v) refl)

  -- ---- all rows

  pub paired_less : (scratch : Bool) (instr : Instr) → InstrFits instr → HasRegisters instr → Less (paired_row task scratch (site_at device k s) instr) (paired_row task scratch (site_at device k t) instr)
  paired_less scratch (i.Brbs n target) fits has =
      branch_cut_less n (wrapped device (near k.pc target)) (further device k 1) (nat_lt n 7) _ _ refl (wrapped_small device (near k.pc target)) (further_small device k 1) (rows_less scratch (i.Brbs n target) fits)
  paired_less scratch (i.Brbc n target) fits has =
      branch_cut_less n (further device k 1) (wrapped device (near k.pc target)) (nat_lt n 7) _ _ refl (further_small device k 1) (wrapped_small device (near k.pc target)) (rows_less scratch (i.Brbc n target) fits)
  paired_less scratch (i.Sbrc r b) fits has =
      skip_less (bit_cut r b false s) (bit_cut r b true s) (bit_cut r b false t) (bit_cut r b true t) (bit_left_less r b false fits.0 fits.1) (bit_left_less r b true fits.0 fits.1)
  paired_less scratch (i.Sbrs r b) fits has =
      skip_less (bit_cut r b true s) (bit_cut r b false s) (bit_cut r b true t) (bit_cut r b false t) (bit_left_less r b true fits.0 fits.1) (bit_left_less r b false fits.0 fits.1)
  paired_less scratch (i.Binary binary.Cpse d r) fits has =
      skip_less (equal_cut d r true s) (equal_cut d r false s) (equal_cut d r true t) (equal_cut d r false t) (equal_left_less d r true has.0 has.1) (equal_left_less d r false has.0 has.1)
  paired_less scratch (i.Binary binary.Cpc d r) fits has = refining_less scratch (i.Binary binary.Cpc d r) fits has tt
  paired_less scratch (i.Binary binary.Sbc d r) fits has = refining_less scratch (i.Binary binary.Sbc d r) fits has tt
  paired_less scratch (i.Binary binary.Add d r) fits has = refining_less scratch (i.Binary binary.Add d r) fits has tt
  paired_less scratch (i.Binary binary.Cp d r) fits has = refining_less scratch (i.Binary binary.Cp d r) fits has tt
  paired_less scratch (i.Binary binary.Sub d r) fits has = refining_less scratch (i.Binary binary.Sub d r) fits has tt
  paired_less scratch (i.Binary binary.Adc d r) fits has = refining_less scratch (i.Binary binary.Adc d r) fits has tt
  paired_less scratch (i.Binary binary.And d r) fits has = refining_less scratch (i.Binary binary.And d r) fits has tt
  paired_less scratch (i.Binary binary.Eor d r) fits has = refining_less scratch (i.Binary binary.Eor d r) fits has tt
  paired_less scratch (i.Binary binary.Or d r) fits has = refining_less scratch (i.Binary binary.Or d r) fits has tt
  paired_less scratch (i.Binary binary.Mov d r) fits has = refining_less scratch (i.Binary binary.Mov d r) fits has tt
  paired_less scratch (i.Binary binary.Mul d r) fits has = refining_less scratch (i.Binary binary.Mul d r) fits has tt
  paired_less scratch (i.St p r) fits has = store_less p r
  paired_less scratch (i.Std b q r) fits has = stored_less scratch (i.Std b q r) fits tt
  paired_less scratch (i.Sts a r) fits has = stored_less scratch (i.Sts a r) fits tt
  paired_less scratch (i.Out a r) fits has = stored_less scratch (i.Out a r) fits tt
  paired_less scratch (i.Cbi a b) fits has = stored_less scratch (i.Cbi a b) fits tt
  paired_less scratch (i.Sbi a b) fits has = stored_less scratch (i.Sbi a b) fits tt
  paired_less scratch instr fits has = refining_less scratch instr fits has tt

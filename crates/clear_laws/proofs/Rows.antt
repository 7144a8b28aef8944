-- The successors of a node are those of its instruction's row, unless it splits at a jump table; then its instruction adds to r30. With
-- pairs, the row of a push has only successors of the plain one.
use Rattle.std.proofs.Common.{◌≡◌, refl, sym, ap, ◌∙◌, ℕ, Bool, true, false, if◌then◌else◌, nat_lt, List, [], Option, Some, None, ◌⊎◌, inl, inr, lt-ltb}
use Rattle.avr_model.specs.declared.device.Device.{Device}
use Rattle.avr_model.specs.declared.instruction.Instr.{Instr}
use Rattle.avr_model.specs.declared.instruction.Instr.TheVariants as i
use Rattle.avr_model.specs.Devices.{Image, words_of, size_of, device_of}
use Rattle.avr_model.specs.Sites.{instruction_at, is_scratch, adds_low, is_some_that, table_site}
use Rattle.avr_model.specs.Step.{is_call}
use Rattle.pair_domain.specs.declared.facts.PairFacts.{PairFacts}
use Rattle.abs_state.specs.declared.state.AbsState.{AbsState}
use Rattle.node_keys.specs.declared.keys.NodeKey.{NodeKey}
use Rattle.node_keys.specs.Keys.{offset_of}
use Rattle.local_rules.specs.declared.local.Node.{Node}
use Rattle.local_rules.specs.Raw.{Raw, untracked_if, too_deep_if}
use Rattle.local_rules.specs.Registers.{before}
use Rattle.local_rules.specs.Local.{raw, row_of, row_at, row_by, row_in, is_hung, fetched, unlined, split_site, splitting, refined_nodes, refining}
use Rattle.local_rules.specs.HighBytes.{SpView}
use Rattle.local_rules.specs.Settling.{settled_nodes, settling}
use Rattle.local_laws.proofs.AllLaws.{local_parts_fit}
use Rattle.local_laws.proofs.Picks.{unlined_some, site_adds}
use Rattle.local_rules.specs.Site.{Task, site_at}

-- ---- the site of a table

splits_at : (task : Task) (pc : ℕ) (pick : Option ℕ) (jump : ℕ) → split_site task pc pick ≡ Some jump
    → is_some_that adds_low (instruction_at task.flash pc) ≡ true
splits_at task pc None jump e = by (nat_lt pc (words_of (device_of task.flash))) e
  where
    by : (inside : Bool) → (if inside then unlined task.assumptions (table_site task.flash pc) else None) ≡ Some jump → is_some_that adds_low (instruction_at task.flash pc) ≡ true
    by true e = let found = unlined_some task.assumptions (table_site task.flash pc) jump e in site_adds task.flash pc found.0 found.1
    by false e = absurd (cc)
splits_at task pc (Some byte) jump e = absurd (cc)

-- ---- faults and moves

outer_moves : (a b : Bool) (pc offset : ℕ) (r : Raw) → (untracked_if a pc (too_deep_if b pc offset r)).moves ≡ r.moves
outer_moves true true pc offset r = refl
outer_moves true false pc offset r = refl
outer_moves false true pc offset r = refl
outer_moves false false pc offset r = refl

outer_faultless : (a b : Bool) (pc offset : ℕ) (r : Raw) → (untracked_if a pc (too_deep_if b pc offset r)).faults ≡ [] → (a ≡ false) × (r.faults ≡ [])
outer_faultless true b pc offset r h = absurd (cc)
outer_faultless false true pc offset r h = absurd (cc)
outer_faultless false false pc offset r h = (refl, h)

-- the successors of a node by its row
pub record HasRow (task : Task) (k : NodeKey) (s : AbsState) (r : Raw) : Type 0 where
  pub faultless : r.faults ≡ []
  pub moves : (raw task k s).moves ≡ r.moves

-- its instruction's row, with pairs or without
abbrev pub IsRowBy : Task → NodeKey → AbsState → Instr → Option PairFacts → Type 0
IsRowBy task k s instr facts = HasRow task k s (row_by facts task (is_scratch task.flash k.pc) (site_at (device_of task.flash) k s) instr)

-- its instruction's plain row has no fault, and without successors in that row the node has none
pub record IsPlainRow (task : Task) (k : NodeKey) (s : AbsState) (instr : Instr) : Type 0 where
  pub faultless : (row_of task (is_scratch task.flash k.pc) (site_at (device_of task.flash) k (before instr s)) instr).faults ≡ []
  pub none : (row_of task (is_scratch task.flash k.pc) (site_at (device_of task.flash) k (before instr s)) instr).moves ≡ [] → (raw task k s).moves ≡ []

-- ---- what pushes bytes

abbrev pub pushes : Instr → Bool
pushes (i.Push r) = true
pushes i.Icall = true
pushes i.Eicall = true
pushes (i.Call t) = true
pushes (i.Rcall t) = true
pushes _ = false

pub calls_push : (instr : Instr) → is_call instr ≡ true → pushes instr ≡ true
calls_push i.Icall h = refl
calls_push i.Eicall h = refl
calls_push (i.Call t) h = refl
calls_push (i.Rcall t) h = refl
calls_push _ h = absurd (cc)

adds_none : (instr : Instr) → pushes instr ≡ true → adds_low instr ≡ false
adds_none (i.Push r) h = refl
adds_none i.Icall h = refl
adds_none i.Eicall h = refl
adds_none (i.Call t) h = refl
adds_none (i.Rcall t) h = refl
adds_none _ h = absurd (cc)

-- its row is the plain one, some of whose successors may be left out
record IsLikePlain (r plain : Raw) : Type 0 where
  faults : r.faults ≡ plain.faults
  none : plain.moves ≡ [] → r.moves ≡ []

refined_none : (image : Image) (instr : Instr) (s : AbsState) (nodes : List Node) → nodes ≡ [] → refined_nodes image instr s nodes ≡ []
refined_none image instr s nodes e = ap (refined_nodes image instr s) e

settled_none : (view : SpView) (nodes : List Node) → nodes ≡ [] → settled_nodes view nodes ≡ []
settled_none view nodes e = ap (settled_nodes view) e

settling_is : (view : SpView) (r : Raw) → IsLikePlain (settling view r) r
settling_is view r = record { faults = refl; none = settled_none view r.moves }

refining_is : (image : Image) (instr : Instr) (s : AbsState) (view : SpView) (r : Raw) → IsLikePlain (refining image instr s (settling view r)) r
refining_is image instr s view r = record { faults = refl; none = λ e. refined_none image instr s (settled_nodes view r.moves) (settled_none view r.moves e) }

like_plain : (facts : Option PairFacts) (device : Device) (task : Task) (scratch : Bool) (k : NodeKey) (s : AbsState) (instr : Instr) → pushes instr ≡ true
    → IsLikePlain (row_by facts task scratch (site_at device k s) instr) (row_of task scratch (site_at device k (before instr s)) instr)
like_plain None device task scratch k s instr h = settling_is _ _
like_plain (Some f) device task scratch k s (i.Push r) h = refining_is task.flash (i.Push r) s _ _
like_plain (Some f) device task scratch k s i.Icall h = refining_is task.flash i.Icall s _ _
like_plain (Some f) device task scratch k s i.Eicall h = refining_is task.flash i.Eicall s _ _
like_plain (Some f) device task scratch k s (i.Call t) h = refining_is task.flash (i.Call t) s _ _
like_plain (Some f) device task scratch k s (i.Rcall t) h = refining_is task.flash (i.Rcall t) s _ _
like_plain (Some f) device task scratch k s _ h = absurd (cc)

module _ (task : Task) (k : NodeKey) (s : AbsState) where
  abbrev device : Device
  device = device_of task.flash

  abbrev outside : Raw → Raw
  outside r = untracked_if (is_hung device task.assumptions k k.sp) k.pc (too_deep_if (nat_lt (size_of device) (offset_of k.sp)) k.pc (offset_of k.sp) r)

  raw_is : (site : Option ℕ) → split_site task k.pc k.pick ≡ site → raw task k s ≡ outside (splitting site (row_in device task) k s)
  unfolding raw
  raw_is site e = ap (λ site. outside (splitting site (row_in device task) k s)) e

  -- a node without a fault has a whole stack pointer if an interrupt may be taken
  pub not_hung : (raw task k s).faults ≡ [] → is_hung device task.assumptions k k.sp ≡ false
  unfolding raw
  not_hung h = (outer_faultless (is_hung device task.assumptions k k.sp) (nat_lt (size_of device) (offset_of k.sp)) k.pc (offset_of k.sp) _ h).0

  module _ (instr : Instr) (is : instruction_at task.flash k.pc ≡ Some instr) (clean : (raw task k s).faults ≡ []) where
    there : fetched device task.flash k.pc ≡ Some instr
    there =
        ap (λ (b : Bool). if b then instruction_at task.flash k.pc else None) (lt-ltb k.pc (words_of device) (local_parts_fit.inside task k s clean).0) ∙ is

    row_is : row_in device task k s ≡ row_by s.facts task (is_scratch task.flash k.pc) (site_at device k s) instr
    row_is = ap (row_at task (is_scratch task.flash k.pc) (site_at device k s)) there

    by_site : (site : Option ℕ) → split_site task k.pc k.pick ≡ site → IsRowBy task k s instr s.facts ⊎ (adds_low instr ≡ true)
    by_site None e =
        let same = raw_is None e in
        inl (record {
          faultless =
              ap (λ (r : Raw). r.faults) (sym row_is)
              ∙ (outer_faultless (is_hung device task.assumptions k k.sp) (nat_lt (size_of device) (offset_of k.sp)) k.pc (offset_of k.sp) (row_in device task k s) (ap (λ (r : Raw). r.faults) (sym same) ∙ clean)).1;
          moves =
              ap (λ (r : Raw). r.moves) same
              ∙ outer_moves (is_hung device task.assumptions k k.sp) (nat_lt (size_of device) (offset_of k.sp)) k.pc (offset_of k.sp) (row_in device task k s) ∙ ap (λ (r : Raw). r.moves) row_is;
        })
    by_site (Some jump) e = inr (ap (is_some_that adds_low) (sym is) ∙ splits_at task k.pc k.pick jump e)

    -- an instruction that does not add to r30 has its row
    pub row_by_unless_added : adds_low instr ≡ false → IsRowBy task k s instr s.facts
    row_by_unless_added other = by (by_site (split_site task k.pc k.pick) refl)
      where
        by : IsRowBy task k s instr s.facts ⊎ (adds_low instr ≡ true) → IsRowBy task k s instr s.facts
        by (inl row) = row
        by (inr adds) = absurd (let no : true ≡ false = sym adds ∙ other in cc)

    pub row_of_pushing : pushes instr ≡ true → IsPlainRow task k s instr
    row_of_pushing h =
        let row = row_by_unless_added (adds_none instr h) in
        let like = like_plain s.facts device task (is_scratch task.flash k.pc) k s instr h in
        record { faultless = sym like.faults ∙ row.faultless; none = λ e. row.moves ∙ like.none e }

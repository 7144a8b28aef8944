-- The tests of a round and the family.
use Rattle.std.proofs.Common.{◌≡◌, ◌≢◌, refl, sym, subst, ◌≤◌, List, Some, None, Result, Ok, Err, IfOk, IfErr, OnOk, Contains, length, arith}
use Rattle.std.specs.Result.{IsErrAnd, result_and}
use Rattle.avr_model.specs.Assumptions.{has_pairs}
use Rattle.avr_model.specs.Devices.{device_of}
use Rattle.avr_model.specs.State.{SIZE}
use Rattle.avr_model.proofs.AllLaws.{devices_are_alike}
use Rattle.node_keys.specs.declared.keys.NodeKey.{NodeKey}
use Rattle.node_keys.specs.Keys.{root_inst, offset_of}
use Rattle.local_rules.specs.declared.local.Node.{Node}
use Rattle.local_rules.specs.declared.local.NodeFault.{NodeFault}
use Rattle.local_laws.specs.Laws.{AreNodesIn}
use Rattle.round_nesting.specs.Nestings.{Noted, AreOnce, AreAlike, TellsAll, VerdictTells}
use Rattle.round_nesting.specs.declared.verdict.NestingVerdict.{NestingVerdict}
use Rattle.round_nesting.specs.declared.verdict.NestingVerdict.TheVariants as verdicts
use Rattle.round_nesting.proofs.AllLaws.{nestings_are_small}
use Rattle.round_rules.specs.declared.refusal.Refusal.{Refusal}
use Rattle.round_rules.specs.declared.refusal.Refusal.TheVariants.{Node as Faulty, Memory}
use Rattle.round_rules.specs.Families.{Family, FamilyHasInst, AreFormed, FitsLimits}
use Rattle.round_rules.specs.Rounds.{PassesTests}
use Rattle.round_rules.specs.Refusals.{over, faulty, re_entry, recursion, too_deep}
use Rattle.round_steps.specs.declared.looking.Look.{Look}
use Rattle.round_steps.specs.declared.looking.SeenState.{SeenState}
use Rattle.round_steps.specs.declared.noting.Notes.{Notes}
use Rattle.round_steps.specs.Looks.{AreSeen}
use Rattle.round_steps.specs.Targets.{all_targets}
use Rattle.round_steps.specs.Gathers.{AreBeyond}
use Rattle.fixpoint.specs.Progress.{AreKnown, Turn}
use Rattle.fixpoint.specs.Checks.{IsTooLarge, nesting_refusal, IsVerdictTold, AreRoundsStopped, IsReady}
use Rattle.fixpoint.proofs.Looked.{seen_node, least_fault}
use Rattle.fixpoint.proofs.Known.{nesting_is}
use Rattle.fixpoint.proofs.Aims.{round_is}
use Rattle.fixpoint.proofs.Beyond.{round_beyond}
use Rattle.local_rules.specs.Site.{Task}

-- an error that is passed on
pub handed_on : {X E : Type 0} (r : Result X E) (x : E) (P : E → Type 0) → IsErrAnd r (λ e. e ≡ x) → P x → IfErr r P
handed_on (Ok y) x P h p = tt
handed_on (Err e) x P h p = subst P (sym h) p

-- a result that is passed on with its property
pub made_if : {A X E : Type 0} (told : Result A E) (x : X) (r : Result X E) (P : X → Type 0) → r ≡ result_and told (Ok x) → OnOk told (P x) → IfOk r P
made_if (Ok a) x r P is h = subst (λ s. IfOk s P) (sym is) h
made_if (Err e) x r P is h = subst (λ s. IfOk s P) (sym is) tt

module _ (task : Task) where
  pub too_large : (f : Family) (r : Refusal) → IsTooLarge f r → AreRoundsStopped task f r
  too_large f r h = record { test = over h.limit; holds = h.over; is = h.is }

  pub has_fault : (f : Family) (work : List NodeKey) (notes : Notes) (seen : SeenState) (b : NodeFault) (r : Refusal) → FitsLimits f → Turn task f work notes
      → AreSeen task f work seen → seen.worst ≡ Some b → r ≡ Faulty b → AreRoundsStopped task f r
  has_fault f work notes seen b r fits turn are worst is = record { test = faulty b; holds = (fits, least_fault task f work notes seen turn are b worst); is = is }

  -- all visits are at offsets that nodes have
  pub looks_fit : (f : Family) (work : List NodeKey) (seen : SeenState) → AreFormed (device_of task.flash) (has_pairs task.assumptions) f → AreSeen task f work seen → (x : Look) → Contains seen.looks.items x
      → offset_of x.key.sp ≤ SIZE
  looks_fit f work seen formed are x i =
      let is = are.looks x i in
      let small = (formed (seen_node task f x is) is.has).small in
      omega (arith, small, devices_are_alike.most_depth (device_of task.flash))

  module _ (f : Family) (notes : Notes) (fits : FitsLimits f) (known : AreKnown task f notes) where
    pub few_insts : AreOnce notes.nesting.insts → length notes.nesting.insts ≤ 65536
    few_insts once = omega (arith, nestings_are_small task f notes.nesting (nesting_is task f notes known) once, fits.few_nodes)

    told_by : (w : NestingVerdict) (r : Refusal) → VerdictTells task f w → r ≡ nesting_refusal w → r ≢ Memory → AreRoundsStopped task f r
    told_by verdicts.Nests r t is real = absurd (real is)
    told_by (verdicts.ReEntry v word) r t is real = record { test = re_entry v word; holds = (fits, known.faultless, t); is = is }
    told_by (verdicts.Recursion word) r t is real = record { test = recursion word; holds = (fits, known.faultless, t); is = is }
    told_by (verdicts.TooDeep d) r t is real = record { test = too_deep d; holds = (fits, known.faultless, t.0, t.1, t.2); is = is }

    pub told_stops : (r : Refusal) → FamilyHasInst f root_inst → (r ≢ Memory → IsVerdictTold (device_of task.flash) notes.nesting r) → r ≢ Memory → AreRoundsStopped task f r
    told_stops r root told real = let t = told real in told_by t.verdict r (t.tells task f refl root (nesting_is task f notes known)) t.is real

    pub nests_passes : FamilyHasInst f root_inst → TellsAll (device_of task.flash) notes.nesting verdicts.Nests → PassesTests task f
    nests_passes root nests =
        let t = nests task f refl root (nesting_is task f notes known) in
        record { fits = fits; faultless = known.faultless; acyclic = t.0; shallow = t.1 }

    pub alike_known : (nesting : Noted) → AreAlike notes.nesting nesting → AreKnown task f (record { callers = notes.callers; leavers = notes.leavers; nesting = nesting })
    alike_known nesting alike = record {
      faultless = known.faultless;
      each = λ n has. let k = known.each n has in record {
        callers = k.callers;
        leavers = k.leavers;
        inst = (alike.insts n.key.inst).0 k.inst;
        spot = λ offset e. (alike.spots (record { inst = n.key.inst; offset = offset })).0 (k.spot offset e);
        entrances = λ way inst back e whole. (alike.entrances (record { from = n.key.inst; into = inst; offset = offset_of n.key.sp })).0 (k.entrances way inst back e whole);
        recur = λ depth cut. (alike.entrances (record { from = root_inst; into = n.key.inst; offset = depth })).0 (k.recur depth cut);
      };
      so = record {
        callers = known.so.callers;
        leavers = known.so.leavers;
        insts = λ i h. known.so.insts i ((alike.insts i).1 h);
        spots = λ s h. known.so.spots s ((alike.spots s).1 h);
        entrances = λ e h. known.so.entrances e ((alike.entrances e).1 h);
      };
    }

  -- all targets are nodes
  pub targets_fit : (f : Family) (work : List NodeKey) (old mid : Notes) (nesting : Noted) (seen : SeenState) → AreFormed (device_of task.flash) (has_pairs task.assumptions) f → FitsLimits f → Turn task f work old
      → AreSeen task f work seen → seen.worst ≡ None → AreKnown task f mid → AreAlike mid.nesting nesting
      → AreNodesIn (device_of task.flash) (has_pairs task.assumptions) (all_targets f (record { callers = mid.callers; leavers = mid.leavers; nesting = nesting }) seen.looks.items)
  targets_fit f work old mid nesting seen formed fits turn are none known alike =
      let notes : Notes = record { callers = mid.callers; leavers = mid.leavers; nesting = nesting } in
      (round_is task f formed work old notes seen turn are none (alike_known f mid fits known nesting alike)).formed

  -- the next nodes
  pub is_ready : (f : Family) (work : List NodeKey) (old mid : Notes) (nesting : Noted) (seen : SeenState) (nodes : List Node) → AreFormed (device_of task.flash) (has_pairs task.assumptions) f → FamilyHasInst f root_inst → FitsLimits f
      → Turn task f work old → AreSeen task f work seen → seen.worst ≡ None → AreKnown task f mid → TellsAll (device_of task.flash) mid.nesting verdicts.Nests
      → AreAlike mid.nesting nesting → AreOnce nesting.insts
      → AreBeyond (device_of task.flash) (has_pairs task.assumptions) f (all_targets f (record { callers = mid.callers; leavers = mid.leavers; nesting = nesting }) seen.looks.items) nodes
      → IsReady task f (record { callers = mid.callers; leavers = mid.leavers; nesting = nesting }) nodes
  is_ready f work old mid nesting seen nodes formed root fits turn are none known nests alike once beyond =
      let notes : Notes = record { callers = mid.callers; leavers = mid.leavers; nesting = nesting } in
      let k = alike_known f mid fits known nesting alike in
      record {
        passes = nests_passes f mid fits known root nests;
        round = round_beyond task f (all_targets f notes seen.looks.items) nodes (round_is task f formed work old notes seen turn are none k) beyond;
        fresh = beyond.beyond;
        apart = beyond.apart;
        known = k;
        once = once;
      }

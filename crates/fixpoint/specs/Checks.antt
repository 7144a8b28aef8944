-- The results of a round's tests.
use Rattle.std.specs.Prelude.{◌≡◌, List, Option, Some}
use Rattle.avr_model.specs.declared.device.Device.{Device}
use Rattle.certificate.specs.declared.limit.Limit.{Limit}
use Rattle.local_rules.specs.declared.local.Node.{Node}
use Rattle.local_rules.specs.declared.local.NodeFault.{NodeFault}
use Rattle.local_rules.specs.declared.local.NodeFault.TheVariants.{TooDeep}
use Rattle.round_nesting.specs.Nestings.{Noted, AreOnce, TellsAll}
use Rattle.round_nesting.specs.declared.verdict.NestingVerdict.{NestingVerdict}
use Rattle.round_nesting.specs.declared.verdict.NestingVerdict.TheVariants as verdicts
use Rattle.round_rules.specs.declared.refusal.Refusal.{Refusal}
use Rattle.round_rules.specs.declared.refusal.Refusal.TheVariants.{Node as Faulty, TooLarge, ReEntry, Recursion, Memory}
use Rattle.round_rules.specs.Families.{Family}
use Rattle.round_rules.specs.Rounds.{PassesTests}
use Rattle.round_rules.specs.Refusals.{Test, IsOverSize, FirstHolds, refusal_of}
use Rattle.round_laws.specs.Steps.{IsRoundOf, HaveOwnKeys}
use Rattle.round_steps.specs.declared.noting.Notes.{Notes}
use Rattle.round_steps.specs.Joins.{AreNew}
use Rattle.fixpoint.specs.Progress.{AreKnown}
use Rattle.local_rules.specs.Site.{Task}

-- the refusal says which limit the family is above
pub record IsTooLarge (f : Family) (r : Refusal) : Type 0 where
  pub limit : Limit
  pub over : IsOverSize f limit
  pub is : r ≡ TooLarge limit

-- the refusal has the least fault
pub record IsFaulty (worst : Option NodeFault) (r : Refusal) : Type 0 where
  pub fault : NodeFault
  pub found : worst ≡ Some fault
  pub is : r ≡ Faulty fault

abbrev pub nesting_refusal : NestingVerdict → Refusal
nesting_refusal verdicts.Nests = Memory
nesting_refusal (verdicts.ReEntry v word) = ReEntry v word
nesting_refusal (verdicts.Recursion word) = Recursion word
nesting_refusal (verdicts.TooDeep need) = Faulty (TooDeep 0 need)

-- the refusal is the verdict on the nesting, on this device
pub record IsVerdictTold (device : Device) (n : Noted) (r : Refusal) : Type 0 where
  pub verdict : NestingVerdict
  pub tells : TellsAll device n verdict
  pub is : r ≡ nesting_refusal verdict

-- the refusal is that of the first test that holds
pub record AreRoundsStopped (task : Task) (f : Family) (r : Refusal) : Type 0 where
  pub test : Test
  pub holds : FirstHolds task f test
  pub is : r ≡ refusal_of test

-- No test holds; the nodes are a round of the family, none lands in it, no two have the same key, and the notes have its nodes.
pub record IsReady (task : Task) (f : Family) (notes : Notes) (nodes : List Node) : Type 0 where
  pub passes : PassesTests task f
  pub round : IsRoundOf task f nodes
  pub fresh : AreNew f nodes
  pub apart : HaveOwnKeys nodes
  pub known : AreKnown task f notes
  pub once : AreOnce notes.nesting.insts

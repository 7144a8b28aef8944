-- Laws of clear certificates.
use Rattle.std.specs.Prelude.{ℕ, ◌≡◌, ◌↔◌, ◌⊎◌, ◌++◌, ◌∷◌, Bool, List, [], Some, Contains}
use Rattle.std.specs.List.{slice_get}
use Rattle.avr_model.specs.declared.choice.Choice.{Choice}
use Rattle.avr_model.specs.declared.choice.Choice.TheVariants.{Take}
use Rattle.avr_model.specs.declared.choice.Flag.{Flag}
use Rattle.avr_model.specs.declared.choice.Stop.TheVariants as stop
use Rattle.avr_model.specs.declared.device.Device.{Device}
use Rattle.avr_model.specs.Devices.{Image, device_of}
use Rattle.avr_model.specs.Vectors.{vector_word}
use Rattle.avr_model.specs.State.{State, IsReset}
use Rattle.avr_model.specs.Run.{IsRun, stop_of, Bounded}
use Rattle.local_rules.specs.Machine.{AreWords}
use Rattle.local_rules.specs.declared.local.Node.{Node}
use Rattle.edge_rules.specs.Families.{RankedFamily}
use Rattle.edge_rules.specs.Views.{AreShown}
use Rattle.certificate.specs.Claims.{Claim, IsClaim}
use Rattle.certificate.specs.Valid.{IsSound}
use Rattle.clear_laws.specs.Clear.{IsClear, is_clear, NeverFlagged, word_of_flag}
use Rattle.clear_laws.specs.Held.{MayHold}
use Rattle.clear_laws.specs.declared.slots.SlotSeed.{SlotSeed}
use Rattle.clear_laws.specs.Reach.{SlotReaches}
use Rattle.clear_laws.specs.declared.slots.Condition.{Condition}
use Rattle.clear_laws.specs.Needs.{meets}
use Rattle.clear_laws.specs.Links.{AreLinks}
use Rattle.clear_laws.specs.Meets.{Meets}
use Rattle.clear_laws.specs.declared.verdict.ClearVerdict.{ClearVerdict}
use Rattle.clear_laws.specs.declared.place.FlaggedPlace.{FlaggedPlace}
use Rattle.clear_laws.specs.Verdict.{AreAllClear, IsClearVerdict, AreSites, AreNevers}
use Rattle.clear_laws.specs.Places.{ArePlaces, AllTellCauses, AreToldOf}
use Rattle.local_rules.specs.Site.{Task, bare}

-- a certificate has at most one verdict
abbrev pub ClearVerdictsAreOne : Type 0
ClearVerdictsAreOne = (image : Image) (c : Claim) (v w : ClearVerdict) → IsClearVerdict image c v → IsClearVerdict image c w → v ≡ w

-- no run from reset is flagged, and each stays within the bound, without any premise on flags
pub record IsBoundedAndClear (image : Image) (bound : ℕ) : Type 0 where
  pub bounded : Bounded image [] bound
  pub never : NeverFlagged (bare image)

-- if all conditions hold without assumptions, and each node is clear
abbrev pub ClearFirmwaresAreNeverFlagged : Type 0
ClearFirmwaresAreNeverFlagged = (image : Image) (c : Claim) → AreWords image → IsClaim c → IsSound (bare image) c → AreAllClear (bare image) c
    → IsBoundedAndClear image c.bound

-- the run stops when it takes a vector that is entered at one of these words
pub record EndsByTakeAt (task : Task) (nevers : List ℕ) (m : State) (choices : List Choice) : Type 0 where
  pub before : List Choice
  pub vector : ℕ
  pub clears : Bool
  pub rest : List Choice
  pub are : choices ≡ before ++ Take vector clears ∷ rest
  pub passes : stop_of task.flash task.assumptions before m ≡ stop.End
  pub word : Contains nevers (vector_word (device_of task.flash) vector)

-- each run from reset that ends flagged ends at one of the first words, or by taking a vector that is entered at one of the second
abbrev pub EndFlaggedAt : Task → List ℕ → List ℕ → Type 0
EndFlaggedAt task sites nevers =
    (m : State) (choices : List Choice) (flag : Flag) → IsReset (device_of task.flash) m → IsRun task.flash task.assumptions choices m → stop_of task.flash task.assumptions choices m ≡ stop.Flag flag
    → Contains sites (word_of_flag flag) ⊎ EndsByTakeAt task nevers m choices

-- so does each run, where the others are those of the certificate
abbrev pub FlaggedRunsEndAt : Task → Claim → List ℕ → Type 0
FlaggedRunsEndAt task c sites = (nevers : List ℕ) → AreNevers task c nevers → EndFlaggedAt task sites nevers

-- if the certificate has no such others, no run from reset is flagged
abbrev pub IsNeverFlagged : Task → Claim → Type 0
IsNeverFlagged task c = AreNevers task c [] → NeverFlagged task

-- if all conditions hold, runs end flagged only at words with a node that isn't clear, or by taking a vector that is assumed never to be
-- taken
abbrev pub FlaggedRunsEndAtSites : Type 0
FlaggedRunsEndAtSites =
    (task : Task) (c : Claim) (sites nevers : List ℕ) → AreWords task.flash → IsClaim c → IsSound task c → AreSites task c sites
    → AreNevers task c nevers → EndFlaggedAt task sites nevers

-- each run from reset that ends flagged ends at a listed word with that cause, or by taking a vector that is entered at one of the others
abbrev pub EndFlaggedAsTold : Task → List FlaggedPlace → List ℕ → Type 0
EndFlaggedAsTold task places nevers =
    (m : State) (choices : List Choice) (flag : Flag) → IsReset (device_of task.flash) m → IsRun task.flash task.assumptions choices m → stop_of task.flash task.assumptions choices m ≡ stop.Flag flag
    → AreToldOf places flag ⊎ EndsByTakeAt task nevers m choices

-- so does each run, where the others are those of the certificate
abbrev pub FlaggedRunsEndAsTold : Task → Claim → List FlaggedPlace → Type 0
FlaggedRunsEndAsTold task c places = (nevers : List ℕ) → AreNevers task c nevers → EndFlaggedAsTold task places nevers

-- if all conditions hold, runs end flagged only as listed, and each listed word has a cause
pub record FlaggedRunsEndAtPlaces : Type 0 where
  pub ends : (task : Task) (c : Claim) (places : List FlaggedPlace) (nevers : List ℕ) → AreWords task.flash → IsClaim c → IsSound task c
      → ArePlaces task c places → AreNevers task c nevers → EndFlaggedAsTold task places nevers
  pub told : (task : Task) (c : Claim) (places : List FlaggedPlace) → ArePlaces task c places → AllTellCauses places

-- Along such links a slot spreads to exactly the nodes at which it may hold a live byte.
abbrev pub SlotsSpreadAlongLinks : Type 0
SlotsSpreadAlongLinks = (device : Device) (task : Task) (nodes : List Node) (links : List (List ℕ)) (offsets : List ℕ) (seeds : List SlotSeed)
    → AreLinks task nodes links offsets seeds → AreShown device nodes → (at d : ℕ) (n : Node) → slice_get nodes at ≡ Some n
    → SlotReaches links offsets seeds d at ↔ MayHold task nodes n.key d

-- If this is a node's condition on its slots, the node is clear exactly if the condition is met.
abbrev pub AskingsTellClearNodes : Type 0
AskingsTellClearNodes = (task : Task) (f : RankedFamily) (n : Node) (a : Condition) → ((held : ℕ → Bool) → is_clear task f.bound n held ≡ meets a held)
    → Meets a (λ d. MayHold task f.nodes n.key d) ↔ IsClear task f n

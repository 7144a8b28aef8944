-- The words at which a step may be flagged, with their causes. Source: own.
use Rattle.std.specs.Prelude.{ℕ, ◌≡◌, ◌≢◌, ◌↔◌, ◌⊎◌, true, List, [], map, Contains}
use Rattle.std.specs.List.Sorted.{IsStrictlySortedBy}
use Rattle.std.specs.Ordering.{nat_cmp}
use Rattle.avr_model.specs.declared.choice.Flag.{Flag}
use Rattle.avr_model.specs.declared.choice.Flag.TheVariants.{Live, Protected, Transfer, Moved}
use Rattle.local_rules.specs.declared.local.Node.{Node}
use Rattle.edge_rules.specs.Families.{RankedFamily}
use Rattle.edge_rules.specs.Expansion.{IsFilled}
use Rattle.certificate.specs.Claims.{Claim}
use Rattle.certificate.specs.Valid.{family_of}
use Rattle.clear_laws.specs.Causes.{MayWriteProtected, MayWriteLive, MayGoUnlisted, MayMove}
use Rattle.clear_laws.specs.declared.place.FlaggedPlace.{FlaggedPlace}
use Rattle.clear_laws.specs.Pointers.{IsPointerAt}
use Rattle.clear_laws.specs.Verdict.{AreSites}
use Rattle.local_rules.specs.Site.{Task}

abbrev pub word_of : FlaggedPlace → ℕ
word_of place = place.word

-- exactly the causes at its word, by some node of the family that isn't clear; and the numbers of its pointer, by all nodes there
pub record IsPlaceOf (task : Task) (f : RankedFamily) (place : FlaggedPlace) : Type 0 where
  pub ascending : IsStrictlySortedBy nat_cmp place.protected
  pub protected : (a : ℕ) → Contains place.protected a ↔ MayWriteProtected task f place.word a
  pub live : (place.live ≡ true) ↔ MayWriteLive task f place.word
  pub transfer : (place.transfer ≡ true) ↔ MayGoUnlisted task f place.word
  pub moves : (place.moves ≡ true) ↔ MayMove task f place.word
  pub pointer : IsPointerAt task f place.word place.pointer

-- exactly the words at which some node of the certificate isn't clear, once each and ascending, with their causes
pub record ArePlaces (task : Task) (c : Claim) (places : List FlaggedPlace) : Type 0 where
  pub sites : AreSites task c (map word_of places)
  pub nodes : List Node
  pub expanded : IsFilled task c.nodes nodes
  pub each : (place : FlaggedPlace) → Contains places place → IsPlaceOf task (family_of c nodes) place

-- the place has a cause
abbrev pub TellsCause : FlaggedPlace → Type 0
TellsCause place = (place.protected ≢ []) ⊎ ((place.live ≡ true) ⊎ ((place.transfer ≡ true) ⊎ (place.moves ≡ true)))

abbrev pub AllTellCauses : List FlaggedPlace → Type 0
AllTellCauses places = (place : FlaggedPlace) → Contains places place → TellsCause place

-- the place has the cause of this flag
abbrev pub TellsFlag : FlaggedPlace → Flag → Type 0
TellsFlag place (Live pc a) = (place.word ≡ pc) × (place.live ≡ true)
TellsFlag place (Protected pc a) = (place.word ≡ pc) × Contains place.protected a
TellsFlag place (Transfer pc target) = (place.word ≡ pc) × (place.transfer ≡ true)
TellsFlag place (Moved pc) = (place.word ≡ pc) × (place.moves ≡ true)

pub record AreToldOf (places : List FlaggedPlace) (flag : Flag) : Type 0 where
  pub place : FlaggedPlace
  pub present : Contains places place
  pub told : TellsFlag place flag

-- Laws of the lists of words at which a step may be flagged.
use Rattle.std.specs.Prelude.{ℕ, ◌≡◌, ◌↔◌, List, []}
use Rattle.avr_model.specs.Devices.{Image}
use Rattle.certificate.specs.Claims.{Claim}
use Rattle.clear_laws.specs.declared.verdict.ClearVerdict.{ClearVerdict}
use Rattle.clear_laws.specs.declared.verdict.ClearVerdict.TheVariants.{Clear}
use Rattle.clear_laws.specs.declared.place.FlaggedPlace.{FlaggedPlace}
use Rattle.clear_laws.specs.Verdict.{IsClearVerdict, AreSites, AreNevers}
use Rattle.clear_laws.specs.Places.{ArePlaces}
use Rattle.local_rules.specs.Site.{Task, bare}

-- the list of a certificate's words is unique
abbrev pub SitesAreOne : Type 0
SitesAreOne = (task : Task) (c : Claim) (xs ys : List ℕ) → AreSites task c xs → AreSites task c ys → xs ≡ ys

-- so is the list of these words with causes
abbrev pub PlacesAreOne : Type 0
PlacesAreOne = (task : Task) (c : Claim) (xs ys : List FlaggedPlace) → ArePlaces task c xs → ArePlaces task c ys → xs ≡ ys

-- so is the list of words of vectors that are assumed never to be taken and that some node may take
abbrev pub NeversAreOne : Type 0
NeversAreOne = (task : Task) (c : Claim) (xs ys : List ℕ) → AreNevers task c xs → AreNevers task c ys → xs ≡ ys

-- without assumptions a certificate is clear exactly if the list is empty
abbrev pub ClearWhereNoSites : Type 0
ClearWhereNoSites = (image : Image) (c : Claim) (verdict : ClearVerdict) (sites : List ℕ) → IsClearVerdict image c verdict → AreSites (bare image) c sites
    → (verdict ≡ Clear) ↔ (sites ≡ [])

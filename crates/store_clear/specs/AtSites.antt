-- What may happen at a word, of nodes as they are listed. Definitions for the contracts of internal functions.
use Rattle.std.specs.Prelude.{ℕ, length}
use Rattle.local_rules.specs.Site.{Task}
use Rattle.store_clear.specs.declared.causes.Other.{Other}
use Rattle.store_clear.specs.declared.causes.WordSite.{WordSite}
use Rattle.store_clear.specs.declared.listing.ListedNodes.{ListedNodes}
use Rattle.store_clear.specs.ByWord.{IsAskChain}
use Rattle.store_clear.specs.Causing.{IsProtectedAt, HappensAt}

-- the word's nodes that aren't clear: the first, and after each the next
abbrev pub IsSiteChain : ListedNodes → WordSite → Type 0
IsSiteChain told site = IsAskChain told.nodes.now told.conditions.now site.pc site.first site.later.now

-- a store at one of them may write this address
abbrev pub IsProtectedThere : Task → ListedNodes → WordSite → ℕ → Type 0
IsProtectedThere task told site a = IsProtectedAt task told.nodes.now told.conditions.now site.pc site.instr.now (length told.conditions.now) a

-- this may happen at one of them
abbrev pub HappensThere : Task → ℕ → Other → ListedNodes → WordSite → Type 0
HappensThere task bound other told site = HappensAt task bound other told.nodes.now told.conditions.now site.pc site.instr.now (length told.conditions.now)

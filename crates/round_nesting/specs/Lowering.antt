-- Allowances that are lowered for an entrance, and then for those of the lowered instances, and so on.
use Rattle.std.specs.Prelude.{ℕ, ◌≡◌, ◌≤◌, ◌⊎◌, List, ◌++◌, Some, Contains, Bool, IsTrue, Result, IfOk}
use Rattle.node_keys.specs.declared.keys.InstKey.{InstKey}
use Rattle.round_nesting.specs.declared.allowances.Allowance.{Allowance}
use Rattle.round_nesting.specs.Nestings.{Spot, Entrance}
use Rattle.round_nesting.specs.Drawn.{HasMore}
use Rattle.round_nesting.specs.Exits.{Exited, AreListed}
use Rattle.round_nesting.specs.Covers.{Granted, allowed, AllowsSpot, AllowsEntrance, CoversNoted}
use Rattle.round_nesting.specs.declared.allowances.Allowances.{Allowances}
use Rattle.round_nesting.specs.declared.exits.Exits.{Exits}

-- the instance has an allowance whose need is at most the one before, and still above the floor; it is less only if the instance is listed
pub record IsLower (a : Allowance) (lowered : List InstKey) (new : Granted) (inst : InstKey) : Type 0 where
  pub now : Allowance
  pub is : allowed new inst ≡ Some now
  pub need : now.need ≤ a.need
  pub floor : a.floor ≤ now.floor
  pub low : a.floor ≤ a.need → now.floor ≤ now.need
  pub either : (now.need ≡ a.need) ⊎ Contains lowered inst

-- no need but those of the listed instances is lowered
abbrev pub IsLowered : Granted → List InstKey → Granted → Type 0
IsLowered gs lowered new = (inst : InstKey) (a : Allowance) → allowed gs inst ≡ Some a → IsLower a lowered new inst

-- the allowances cover the entrance, or the upper instance waits
abbrev pub IsMet : ℕ → Granted → List InstKey → Entrance → Type 0
IsMet back gs waiting x = AllowsEntrance back gs x ⊎ Contains waiting x.from

-- needs are lowered for these entrances: what is lowered is added to the queue
pub record Lowers (back : ℕ) (gs : Granted) (queue : List InstKey) (xs : List Entrance) (new : Granted) (now : List InstKey) : Type 0 where
  pub more : List InstKey
  pub queued : now ≡ queue ++ more
  pub lowered : IsLowered gs more new
  pub met : (x : Entrance) → Contains xs x → IsMet back new more x

-- the allowances cover all spots, and all entrances but some of waiting instances
pub record CoversBut (back : ℕ) (gs : Granted) (waiting : List InstKey) (spots : List Spot) (entrances : List Entrance) : Type 0 where
  pub each_spot : (s : Spot) → Contains spots s → AllowsSpot gs s
  pub each_entrance : (x : Entrance) → Contains entrances x → IsMet back gs waiting x

-- notes whose entrances are listed are covered, if all but those of the waiting instances were
abbrev pub IsSettled : ℕ → Exited → Granted → List InstKey → Granted → Type 0
IsSettled back es gs waiting new =
    (spots : List Spot) (entrances : List Entrance) → AreListed es entrances → CoversBut back gs waiting spots entrances → CoversNoted back new spots entrances

-- notes with one more entrance, all listed, are covered, if those without it were
abbrev pub IsEntranceCovered : ℕ → Exited → Granted → Entrance → Granted → Type 0
IsEntranceCovered back es gs x new =
    (spots : List Spot) (entrances more : List Entrance) → HasMore entrances x more → AreListed es more → CoversNoted back gs spots entrances → CoversNoted back new spots more

-- ---- of allowances

-- if the answer is yes
abbrev pub IfYes : {E : Type 0} → Result Bool E → Type 0 → Type 0
IfYes result then_so = IfOk result (λ done. IsTrue done → then_so)

-- their needs are lowered for these entrances: what is lowered is added to the queue
abbrev pub LowersNeeds : Allowances → List InstKey → List Entrance → Allowances → List InstKey → Type 0
LowersNeeds old queue xs new now = Lowers old.back old.map.entries queue xs new.map.entries now

-- they cover notes whose entrances are among the exits, if all but those of the waiting instances were covered
abbrev pub SettlesNeeds : Allowances → Exits → List InstKey → Allowances → Type 0
SettlesNeeds old exits waiting new = IsSettled old.back exits.map.entries old.map.entries waiting new.map.entries

-- they cover notes with one more entrance, all among the exits, if those without it were covered
abbrev pub CoversEntrance : Allowances → Exits → Entrance → Allowances → Type 0
CoversEntrance old exits x new = IsEntranceCovered old.back exits.map.entries old.map.entries x new.map.entries

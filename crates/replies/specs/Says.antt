-- A status with its text.
use Rattle.std.specs.Prelude.{◌≡◌, ℕ, List, Option, Some, None}
use Rattle.replies.specs.declared.status.Status.{Status}

-- which status and text are the answer
abbrev pub Reply : Type 1
Reply = Status → List ℕ → Type 0

abbrev pub Says : Status → List ℕ → Reply
Says s t status text = (status ≡ s) × (text ≡ t)

-- this status with this text; a fault without a text is never answered
abbrev pub Refuses : Status → Option (List ℕ) → Reply
Refuses s None status text = ⊥
Refuses s (Some t) status text = (status ≡ s) × (text ≡ t)

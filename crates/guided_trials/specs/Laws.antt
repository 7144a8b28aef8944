-- Laws of guided trials, in terms of the firmware and the machine. Source: own.
use Rattle.std.specs.Prelude.{ℕ, ◌≡◌, ◌<◌, ◌≤◌, ◌↔◌, ◌⊎◌, Bool, false, IsTrue, List, length, Contains}
use Rattle.std.specs.List.Sorted.{IsStrictlySortedBy}
use Rattle.std.specs.Ordering.{nat_cmp}
use Rattle.avr_model.specs.declared.assumption.Entry.{Entry}
use Rattle.avr_model.specs.declared.choice.Choice.TheVariants.{Take}
use Rattle.avr_model.specs.Assumptions.{is_never}
use Rattle.avr_model.specs.Devices.{Image, device_of, words_of}
use Rattle.avr_model.specs.Sites.{instruction_at}
use Rattle.avr_model.specs.State.{State}
use Rattle.avr_model.specs.Vectors.{vector_word}
use Rattle.avr_machine.specs.declared.menu.Menu.{Menu}
use Rattle.avr_machine.specs.Menu.{has_choice}
use Rattle.stimulus.specs.Driving.{IsMenuOf}
use Rattle.certificate.specs.Claims.{Claim}
use Rattle.guided_trials.specs.declared.guide.Guide.{Guide}
use Rattle.guided_trials.specs.declared.guide.TrialMoment.{TrialMoment}
use Rattle.guided_trials.specs.Telling.{fills, told_if, telling}
use Rattle.guided_trials.specs.Guides.{guide_of}
use Rattle.guided_trials.specs.Choosing.{reads, after, pick, picked}
use Rattle.guided_trials.specs.Trials.{trial_of}

-- the byte is one that is always tried, or an instruction of flash distinguishes it
abbrev pub IsByteTold : Image → ℕ → Type 0
IsByteTold image byte = Contains fills byte ⊎ ((at : ℕ) × (at < words_of (device_of image)) × Contains (told_if (instruction_at image at)) byte)

pub record TrialsAreLed : Type 0 where
  -- the tried bytes ascend, and are exactly these
  pub ascend : (image : Image) → IsStrictlySortedBy nat_cmp (telling image)
  pub told : (image : Image) (byte : ℕ) → Contains (telling image) byte ↔ ((byte < 256) × IsByteTold image byte)
  -- the byte stays; only at an instruction that may read an input it may become another tried one
  pub kept : (image : Image) (g : Guide) (t pc : ℕ) (l : TrialMoment) → reads image pc ≡ false → (after image g t l pc).byte ≡ l.byte
  pub changed : (image : Image) (A : List Entry) (c : Claim) (t pc : ℕ) (l : TrialMoment)
      → ((after image (guide_of image A c) t l pc).byte ≡ l.byte) ⊎ Contains (telling image) (after image (guide_of image A c) t l pc).byte
  -- each choice is in the menu at its step, and is the one picked by the state
  pub legal : (image : Image) (g : Guide) (t : ℕ) (l : TrialMoment) (menu : Menu) → IsTrue (has_choice menu (picked image g t l menu))
  pub alike : (image : Image) (g : Guide) (t : ℕ) (l : TrialMoment) (menu : Menu) (m : State) → IsMenuOf menu m → picked image g t l menu ≡ pick image g t l m
  -- no vector with a `never` line is taken
  pub never : (image : Image) (A : List Entry) (c : Claim) (t : ℕ) (l : TrialMoment) (m : State) (v : ℕ) (clears : Bool)
      → pick image (guide_of image A c) t l m ≡ Take v clears → is_never A (vector_word (device_of image) v) ≡ false
  -- a trial has at most 200,000 choices
  pub short : (image : Image) (A : List Entry) (g : Guide) (t : ℕ) → length (trial_of image A g t) ≤ 200000

-- The texts that are setups, and the refusals of others, by the spelling alone.
use Rattle.std.specs.Prelude.{◌≡◌, ℕ, List, [], ◌∷◌, ◌++◌, map, Result, Ok, Err, ⊤}
use Rattle.avr_model.specs.declared.device.Device.{Device}
use Rattle.text_base.specs.Answers.{Answers}
use Rattle.text_base.specs.Lines.{TextLine, Position, lines_of}
use Rattle.line_reading.specs.Words.{whole, Passes}
use Rattle.peripherals.specs.declared.peripherals.PeripheralsFault.{PeripheralsFault}
use Rattle.peripherals.specs.declared.peripherals.PeripheralsFault.TheVariants.{Malformed, Memory}
use Rattle.peripherals.specs.Spelling.{Setup, IsSetup, setup_lines, text_of}
use Rattle.peripherals.specs.Reading.{setup_in}

-- the text is the spelling of this setup
pub record IsSetupReading (device : Device) (text : List ℕ) (setup : Setup) : Type 0 where
  pub fits : IsSetup device setup
  pub bytes : text ≡ text_of setup

-- some setup begins with these lines and continues with the others
pub record BeginsSetup (device : Device) (lines more : List (List (List ℕ))) : Type 0 where
  pub setup : Setup
  pub fits : IsSetup device setup
  pub all : setup_lines setup ≡ lines ++ more

-- No setup begins with these lines and the next one. If no line is left, the lines are not those of a setup.
abbrev pub NoSetupGoesOn : Device → List (List (List ℕ)) → List TextLine → Type 0
NoSetupGoesOn device before [] = BeginsSetup device before [] → ⊥
NoSetupGoesOn device before (l ∷ ls) = (ws : List (List ℕ)) (more : List (List (List ℕ))) → l ≡ whole ws → BeginsSetup device (before ++ ws ∷ []) more → ⊥

-- The offset is that of the first line with which no setup continues, or the length if a line is missing: the lines before it begin a
-- setup, but not with that line.
pub record IsSetupStuck (device : Device) (text : List ℕ) (at : ℕ) : Type 0 where
  pub before : List (List (List ℕ))
  pub position : Position
  pub offset : position.at ≡ at
  pub passed : Passes (record { at = 0; rest = lines_of text }) (map whole before) position
  pub more : List (List (List ℕ))
  pub begins : BeginsSetup device before more
  pub stop : NoSetupGoesOn device before position.rest

-- the answer that is due for a text
abbrev pub IsSetupDue : Device → List ℕ → Result Setup PeripheralsFault → Type 0
IsSetupDue device text (Ok setup) = IsSetupReading device text setup
IsSetupDue device text (Err (Malformed at)) = IsSetupStuck device text at
IsSetupDue device text (Err Memory) = ⊥

-- the answer is the one that is due, or memory ran out
abbrev pub IsSetupDueUnlessMemory : Device → List ℕ → Result Setup PeripheralsFault → Type 0
IsSetupDueUnlessMemory device text (Err Memory) = ⊤
IsSetupDueUnlessMemory device text answer = IsSetupDue device text answer

-- a text that is the spelling of a setup has that setup as answer, or memory ran out
abbrev pub AnswersSpelledSetup : Device → List ℕ → Result Setup PeripheralsFault → Type 0
AnswersSpelledSetup device text answer = (setup : Setup) → IsSetupReading device text setup → Answers (λ d. d) Memory answer (Ok setup)

-- ---- laws

abbrev pub ReadSetupIsSpelled : Type 0
ReadSetupIsSpelled = (device : Device) (text : List ℕ) (setup : Setup) → setup_in device text ≡ Ok setup → IsSetupReading device text setup

abbrev pub SpelledSetupIsRead : Type 0
SpelledSetupIsRead = (device : Device) (text : List ℕ) (setup : Setup) → IsSetupReading device text setup → setup_in device text ≡ Ok setup

abbrev pub RefusedSetupIsStuck : Type 0
RefusedSetupIsStuck = (device : Device) (text : List ℕ) (at : ℕ) → setup_in device text ≡ Err (Malformed at) → IsSetupStuck device text at

-- no text is the spelling of two setups
abbrev pub SetupsHaveOneText : Type 0
SetupsHaveOneText = (device : Device) (a b : Setup) → IsSetup device a → IsSetup device b → text_of a ≡ text_of b → a ≡ b

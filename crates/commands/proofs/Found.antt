-- What is read from what clap found.
use Rattle.std.proofs.Common.{◌≡◌, inl, inr, Bool, true, false, refl, codes, Option, Some, None}
use Rattle.std.specs.Prelude.{Box, option_map}
use Rattle.std.specs.Borrow.{Bor}
use Rattle.std.specs.Box.{box_value}
use Rattle.clap.specs.Words.{Text, subcommand_rows}
use Rattle.clap.specs.declared.parser.matches.SubCommand.{SubCommand}
use Rattle.clap.specs.declared.parser.matches.ArgMatches.TheViews.{out-SubCommand}
use Rattle.commands.specs.Views.{text_of}
use Rattle.commands.specs.Lines.{TellsMark}

pub text_is : (o : Option (Bor Text)) → text_of o ≡ option_map (λ s. s.now) o
text_is None = refl
text_is (Some t) = refl

pub mark_is : (b r : Bool) (o : Option Text) → TellsMark b o → (o ≡ None → r ≡ false) → (o ≡ Some (codes "true") → r ≡ true) → (o ≡ Some (codes "false") → r ≡ false) → r ≡ b
mark_is true r o t none set unset = set t
mark_is false r o t none set unset = elim t [ inl e ↦ none e | inr e ↦ unset e ]

pub is_value : {X : Type 0} (a b : X) → Some a ≡ Some b → a ≡ b
is_value a b e = cc

pub never_some : {X : Type 0} (a : X) → None ≡ Some a → ⊥
never_some a e = cc

module _ {Z : Type 0} where
  pub names_are : (o : Option (Box SubCommand Z)) → option_map (λ p. p.0) (subcommand_rows o) ≡ option_map (λ b. (out-SubCommand (box_value b)).name.now) o
  names_are None = refl
  names_are (Some b) = refl

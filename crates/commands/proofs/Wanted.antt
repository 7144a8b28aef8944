-- A line that is a command has what the command wants.
use Rattle.std.proofs.Common.{◌≡◌, ◌&&◌, Bool, true, false, refl, Option, Some, None, is_some}
use Rattle.std.proofs.lemmas.Option.{none-some}
use Rattle.clap.specs.Words.{Text}
use Rattle.avr_model.specs.declared.device.Device.{Device as Chip}
use Rattle.commands.specs.declared.line.Permitted.{Permitted}
use Rattle.commands.specs.Options.{Valued, Assume, Steps, Device, Trials}
use Rattle.commands.specs.Commands.{Work, Command, LineSoFar, fits, permits_numbers, permits_marks, permits, requested, measured}
use Rattle.commands.proofs.Pieces.{Mark, Json, Why, value_of, is_marked}
use Rattle.commands.proofs.Going.{IsWanted}
use Rattle.commands.proofs.Known.{allows}

pub both : (a b : Bool) → (a && b) ≡ true → (a ≡ true) × (b ≡ true)
both true b e = (refl, e)
both false b e = absurd (let wrong = e in cc)

fitting : (permitted stands : Bool) → fits permitted stands ≡ true → stands ≡ true → permitted ≡ true
fitting true stands e s = refl
fitting false true e s = e
fitting false false e s = s

-- a line with these names and no options but these
pub wanted : (second : Bool) (options : Permitted) (l : LineSoFar) → is_some l.first ≡ true → is_some l.second ≡ second → permits options l ≡ true → IsWanted (allows second options) l
wanted second options l first has e = record { first = first; second = has; given = given; marked = marked } where
  assume : (fits options.assume (is_some l.assume) ≡ true) × ((fits options.device (is_some l.device) && (permits_numbers options l && permits_marks options l)) ≡ true)
  assume = both _ _ e

  device : (fits options.device (is_some l.device) ≡ true) × ((permits_numbers options l && permits_marks options l) ≡ true)
  device = both _ _ assume.1

  rest : (permits_numbers options l ≡ true) × (permits_marks options l ≡ true)
  rest = both _ _ device.1

  numbers : (fits options.steps (is_some l.steps) ≡ true) × (fits options.trials (is_some l.trials) ≡ true)
  numbers = both _ _ rest.0

  marks : (fits options.json l.json ≡ true) × (fits options.why l.why ≡ true)
  marks = both _ _ rest.1

  given : (v : Valued) → is_some (value_of v l) ≡ true → (allows second options).given v ≡ true
  given Assume s = fitting options.assume (is_some l.assume) assume.0 s
  given Steps s = fitting options.steps (is_some l.steps) numbers.0 s
  given Device s = fitting options.device (is_some l.device) device.0 s
  given Trials s = fitting options.trials (is_some l.trials) numbers.1 s

  marked : (m : Mark) → is_marked m l ≡ true → (allows second options).marked m ≡ true
  marked Json s = fitting options.json l.json marks.0 s
  marked Why s = fitting options.why l.why marks.1 s

-- what a request has
pub requested_has : (device : Option Chip) (first assume : Option Text) (work : Option Work) (x : Command) → requested device first assume work ≡ Some x → (is_some first ≡ true) × ((w : Work) × (work ≡ Some w))
requested_has None first assume work x e = absurd (none-some x e)
requested_has (Some d) None assume work x e = absurd (none-some x e)
requested_has (Some d) (Some f) assume None x e = absurd (none-some x e)
requested_has (Some d) (Some f) assume (Some w) x e = (refl, (w, refl))

-- what a measurement has
pub measured_has : (first second : Option Text) (x : Command) → measured first second ≡ Some x → (is_some first ≡ true) × (is_some second ≡ false)
measured_has None second x e = absurd (none-some x e)
measured_has (Some c) (Some s) x e = absurd (none-some x e)
measured_has (Some c) None x e = (refl, refl)

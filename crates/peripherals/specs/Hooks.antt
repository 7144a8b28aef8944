-- Requirements on a closure that chooses among sources.
use Rattle.std.specs.Prelude.{ℕ, ◌≡◌, List, length, Option, Some, None, Bool, false, IsTrue, slice_get, ◌⊎◌}
use Rattle.std.specs.Borrow.{Bor}
use Rattle.std.specs.Fn.{Shared}
use Rattle.avr_model.specs.declared.choice.Choice.TheVariants.{Take}
use Rattle.avr_machine.specs.declared.menu.Menu.{Menu}
use Rattle.avr_machine.specs.Menu.{has_choice}
use Rattle.peripherals.specs.declared.hook.Moment.{Moment}
use Rattle.peripherals.specs.declared.peripherals.Source.{Source}
use Rattle.peripherals.specs.Spelling.{Setup}

-- the vectors that may be taken by a menu
abbrev pub stands_in : Menu → ℕ → Bool
stands_in menu v = has_choice menu (Take v false)

-- the number of a source whose interrupt is in the menu
pub record IsTakable (setup : Setup) (menu : Menu) (n : ℕ) : Type 0 where
  pub source : Source
  pub there : slice_get setup.sources n ≡ Some source
  pub stands : IsTrue (stands_in menu source.vector)

module _ {F : Type 0} (g : Shared F (Bor Moment × (Bor Menu × Unit {0})) (Option ℕ)) where
  -- asked after this many steps, with the takes of each source and this menu, f may answer this
  pub record MayAnswer (f : F) (step : ℕ) (taken : List ℕ) (menu : Menu) (answer : Option ℕ) : Type 0 where
    pub moment : Bor Moment
    pub shown : Bor Menu
    pub step_is : moment.now.step ≡ step
    pub taken_is : moment.now.taken.now ≡ taken
    pub shows : shown.now ≡ menu
    pub says : g.post f (moment, (shown, tt)) answer

  -- f may be called with every menu and all progress that counts each source, and answers nothing, or a source whose interrupt is in the
  -- menu
  pub record IsHook (setup : Setup) (f : F) : Type 0 where
    pub callable : (moment : Bor Moment) (menu : Bor Menu) → length moment.now.taken.now ≡ length setup.sources → g.pre f (moment, (menu, tt))
    pub member : (step : ℕ) (taken : List ℕ) (menu : Menu) (n : ℕ) → length taken ≡ length setup.sources → MayAnswer f step taken menu (Some n) → IsTakable setup menu n

-- a rule by which questions at a step with a menu are answered
abbrev pub Answering : Type 1
Answering = ℕ → List ℕ → Menu → Option ℕ → Type 0

-- the first answer, or the second one if the first is none
abbrev pub Either : Answering → Answering → Answering
Either first second step taken menu None = first step taken menu None × second step taken menu None
Either first second step taken menu (Some n) = first step taken menu (Some n) ⊎ (first step taken menu None × second step taken menu (Some n))

-- the answers of two hooks, each seen as its peripherals and its closure: the first one's, or the second one's if the first is none
abbrev pub ByHooks : {F G : Type 0} → Shared F (Bor Moment × (Bor Menu × Unit {0})) (Option ℕ) → Shared G (Bor Moment × (Bor Menu × Unit {0})) (Option ℕ) → Setup × F → Setup × G → Answering
ByHooks f g first second = Either (MayAnswer f first.1) (MayAnswer g second.1)

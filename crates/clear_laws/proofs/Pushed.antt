-- The bytes of a return address are pushed at the stack pointer and below it.
use Rattle.std.proofs.Common.{◌≡◌, ◌∙◌, refl, sym, ap, ℕ, zero, suc, ◌+◌, ◌-◌, ◌%◌, ◌<◌, ◌≤◌, inl, inr, Bool, true, false, if◌then◌else◌, arith}
use Rattle.avr_model.proofs.AllLaws.{devices_are_alike}
use Rattle.avr_model.specs.declared.device.Device.{Device}
use Rattle.avr_model.specs.Devices.{device_of, back_of, has_sph, sp_count}
use Rattle.avr_model.specs.State.{State, minus_sp, high}
use Rattle.avr_model.specs.Effects.{back_bytes, pushed_from, way_back}
use Rattle.local_laws.proofs.AllLaws.{masked}
use Rattle.local_rules.specs.Site.{Task, masks_by}
use Rattle.clear_laws.proofs.Memory.{IsPushedAt}

-- how many numbers a stack pointer holds, with a high byte or without
abbrev counted : Bool → ℕ
counted has_high = if has_high then 65536 else 256

-- a number of places below
abbrev under : Bool → ℕ → ℕ → ℕ
under has_high sp i = (sp + (counted has_high - i % counted has_high)) % counted has_high

under_none : (has_high : Bool) (sp : ℕ) → sp < counted has_high → under has_high sp 0 ≡ sp
under_none true sp fits = omega arith
under_none false sp fits = omega arith

under_fits : (has_high : Bool) (sp i : ℕ) → under has_high sp i < counted has_high
under_fits true sp i = omega arith
under_fits false sp i = omega arith

under_more : (has_high : Bool) (sp i : ℕ) → sp < counted has_high → i < 255 → under has_high (under has_high sp 1) i ≡ under has_high sp (i + 1)
under_more true sp i fits small = omega arith
under_more false sp i fits small = omega arith

pushed_at : (device : Device) (n sp word a : ℕ) → sp < sp_count device → n < 256 → IsPushedAt (pushed_from device sp (back_bytes n word)) a
    → (i : ℕ) × ((i < n) × (a ≡ minus_sp device sp i))
pushed_at device zero sp word a fits few h = absurd h
pushed_at device (suc n) sp word a fits few (inl e) = (0, (omega arith, e ∙ sym (under_none (has_sph device) sp fits)))
pushed_at device (suc n) sp word a fits few (inr h) =
    let rest = pushed_at device n (minus_sp device sp 1) (high word) a (under_fits (has_sph device) sp 1) (omega (arith, few)) h in
    (rest.0 + 1, (omega (arith, rest.1.0), rest.1.1 ∙ under_more (has_sph device) sp rest.0 fits (omega (arith, rest.1.0, few))))

-- Such an address in SRAM is at the stack pointer or below: with a high byte SRAM ends far below what it wraps to, and without one the
-- stack pointer is above I/O.
low_by : (has_high : Bool) (sp i a : ℕ) → sp < counted has_high → i < 3 → a < 33280 → (has_high ≡ false → 3 ≤ sp) → a ≡ under has_high sp i → a ≤ sp
low_by true sp i a fits few inside above e = omega (arith, fits, few, inside, e)
low_by false sp i a fits few inside above e = let over : 3 ≤ sp = above refl in omega (arith, fits, few, over, e)

-- a byte of the return address lies at the stack pointer or below
pub way_low : (device : Device) (sp back base offset a : ℕ) → sp + offset ≡ base → sp < sp_count device → (has_sph device ≡ false → 3 ≤ sp) → a < 33280
    → IsPushedAt (way_back device sp back) a → a + offset ≤ base
way_low device sp back base offset a at fits above inside h =
    let most = devices_are_alike.most_back device in
    let there = pushed_at device (back_of device) sp back a fits (omega (arith, most)) h in
    let low : a ≤ sp = low_by (has_sph device) sp there.0 a fits (omega (arith, there.1.0, most)) inside above there.1.1 in
    omega (arith, at, low)

-- a list of a device without SPH is read with `masks`
pub masked_by : (task : Task) (m : State) → m.device ≡ device_of task.flash → has_sph m.device ≡ false → masks_by task ≡ true
masked_by task m same none = masked (device_of task.flash) task.assumptions (sym (ap has_sph same) ∙ none)

use Rattle.std.proofs.Common.{◌≡◌, List, ℕ, Err, refl, sym, subst}
use Rattle.avr_model.specs.declared.device.Device.{Device}
use Rattle.avr_model.specs.Devices.{device_of}
use Rattle.assumption_files.specs.Reading.{entries_in}
use Rattle.replies.specs.declared.status.Status.TheVariants as exit
use Rattle.replies.specs.Reply.{WithList}
use Rattle.stack_core.specs.Reading.{bytes_of}
use Rattle.stack_core.specs.Answering.{nothing}
use Rattle.stack_core.proofs.Replies.{list_refused}
use Rattle.stack_core.proofs.loading.listed.Goals as goal

pub returns-in_ok-assumptions_refused-in-Err : goal.returns-in_ok-assumptions_refused-in-Err
returns-in_ok-assumptions_refused-in-Err c =
    subst (λ list. WithList (device_of c.args.loaded.flash) (bytes_of list) nothing exit.BadAssumptions c.in_ok-assumptions_refused-in-Err.field-0.items) (sym c.in-Some.is)
    (list_refused (device_of c.args.loaded.flash) c.in-Some.bytes.items c.in-Err.fault exit.BadAssumptions c.in_ok-assumptions_refused-in-Err.field-0.items
    (λ apart. subst (λ (device : Device). entries_in device c.in-Some.bytes.items ≡ Err c.in-Err.fault) c.device.ensures
    (subst (λ (bytes : List ℕ). entries_in c.device.result bytes ≡ Err c.in-Err.fault) c.deref.ensures.value (c.in-Err.ensures.exact apart)))
    refl c.in_ok-assumptions_refused-in-Err.ensures)

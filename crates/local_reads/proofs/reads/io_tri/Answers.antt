use Rattle.std.proofs.Common.{◌∙◌, sym, ap, Option, ℕ}
use Rattle.local_rules.specs.Reads.{enable_read, io_tri}
use Rattle.local_reads.proofs.reads.io_tri.Goals as goal

pub returns-in-Some : goal.returns-in-Some
returns-in-Some c =
    c.enable_read.ensures ∙ ap (enable_read c.args.may) c.is_on.ensures
    ∙ ap (λ (o : Option ℕ). io_tri c.args.free c.args.may o c.args.masks) (sym c.in-Some.is)

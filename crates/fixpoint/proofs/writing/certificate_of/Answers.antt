use Rattle.std.proofs.Common.{arith, sym, subst, ◌≡◌, ◌∙◌}
use Rattle.avr_model.specs.Devices.{device_of}
use Rattle.family_edges.specs.Shown.{AreOfSomeDevice}
use Rattle.round_rules.specs.Families.{nodes_of}
use Rattle.fixpoint.proofs.Certificates.{root_at, bound_small, claim, solution}
use Rattle.fixpoint.proofs.writing.certificate_of.Goals as goal
use Rattle.family_edges.specs.Tasks.{task_of}

pub new-requires : goal.new-requires
new-requires c =
    subst AreOfSomeDevice (sym c.in_ok-into_sorted.ensures)
    (device_of c.args.task.now.flash.now, c.solved_families_are_shown.ensures.shown.shown (task_of c.args.task.now) c.requires.solved.0 c.args.table c.requires.solved.1)

pub heading-requires-clause-solved : goal.heading-requires-clause-solved
heading-requires-clause-solved c =
    record {
      family = c.args.table;
      rounds = c.requires.solved.0;
      solved = c.requires.solved.1;
      are = c.in_ok-family.ensures.nodes ∙ c.new.ensures ∙ c.in_ok-into_sorted.ensures;
    }

pub overflow_cast-bound : goal.overflow_cast-bound
overflow_cast-bound c =
    let nodes : c.in_ok-family.family.nodes ≡ nodes_of c.args.table = c.in_ok-family.ensures.nodes ∙ c.new.ensures ∙ c.in_ok-into_sorted.ensures in
    let root = root_at (task_of c.args.task.now) c.args.table c.in_ok-family.family.nodes nodes c.requires.solved c.in-Ok.insts.items
    c.in_ok-seeds-in-Ok.seeds.items c.in-Ok.ensures.insts c.in_ok-seeds-in-Ok.ensures c.solved_families_are_shown.ensures.made c.index.result.now c.index.ensures in
    let le = bound_small (task_of c.args.task.now) c.args.table c.in_ok-family.family.nodes nodes c.requires.solved c.in-Ok.insts.items
    c.in_ok-seeds-in-Ok.seeds.items c.in-Ok.ensures.insts c.in_ok-seeds-in-Ok.ensures c.solved_families_are_shown.ensures.made c.index.result.now root in
    omega (arith, le)

pub build-requires : goal.build-requires
build-requires c =
    let nodes : c.in_ok-family.family.nodes ≡ nodes_of c.args.table = c.in_ok-family.ensures.nodes ∙ c.new.ensures ∙ c.in_ok-into_sorted.ensures in
    let root = root_at (task_of c.args.task.now) c.args.table c.in_ok-family.family.nodes nodes c.requires.solved c.in-Ok.insts.items
    c.in_ok-seeds-in-Ok.seeds.items c.in-Ok.ensures.insts c.in_ok-seeds-in-Ok.ensures c.solved_families_are_shown.ensures.made c.index.result.now c.index.ensures in
    claim (task_of c.args.task.now) c.args.table c.in_ok-family.family.nodes nodes c.requires.solved c.in-Ok.insts.items
    c.in_ok-seeds-in-Ok.seeds.items c.in-Ok.ensures.insts c.in_ok-seeds-in-Ok.ensures c.solved_families_are_shown.ensures.made c.device.result c.index.result.now c.in-Ok.listed c.device.ensures root
    c.in-Ok.ensures.listed c.entries-entries.ensures.kept c.requires.of_device

pub returns-in_ok-seeds-in-Ok : goal.returns-in_ok-seeds-in-Ok
returns-in_ok-seeds-in-Ok c =
    let nodes : c.in_ok-family.family.nodes ≡ nodes_of c.args.table = c.in_ok-family.ensures.nodes ∙ c.new.ensures ∙ c.in_ok-into_sorted.ensures in
    let root = root_at (task_of c.args.task.now) c.args.table c.in_ok-family.family.nodes nodes c.requires.solved c.in-Ok.insts.items
    c.in_ok-seeds-in-Ok.seeds.items c.in-Ok.ensures.insts c.in_ok-seeds-in-Ok.ensures c.solved_families_are_shown.ensures.made c.index.result.now c.index.ensures in
    solution (task_of c.args.task.now) c.args.table c.in_ok-family.family.nodes nodes c.requires.solved c.in-Ok.insts.items
    c.in_ok-seeds-in-Ok.seeds.items c.in-Ok.ensures.insts c.in_ok-seeds-in-Ok.ensures c.solved_families_are_shown.ensures.made c.build.result c.device.result c.index.result.now c.in-Ok.listed c.device.ensures root
    c.in-Ok.ensures.listed c.build.ensures

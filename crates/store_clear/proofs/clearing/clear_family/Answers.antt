use Rattle.std.proofs.Common.{List, subst}
use Rattle.avr_model.specs.declared.assumption.Entry.{Entry}
use Rattle.certificate.specs.Valid.{IsSound}
use Rattle.local_rules.specs.Machine.{HaveSixteenBits}
use Rattle.clear_laws.specs.declared.verdict.ClearVerdict.TheVariants.{Clear, Unclear}
use Rattle.clear_laws.proofs.AllLaws.{clear_firmwares_are_never_flagged}
use Rattle.store_clear.proofs.Sites.{clear_told, unclear_told, clear_both, unclear_both}
use Rattle.store_clear.proofs.clearing.clear_family.Goals as goal
use Rattle.local_rules.specs.Site.{task_with}
use Rattle.family_edges.specs.Tasks.{task_of}

pub returns-in-None-clause-exact : goal.returns-in-None-clause-exact
returns-in-None-clause-exact c =
    clear_told (task_of c.args.task.now) c.args.certificate.now c.args.family.now.nodes c.in_ok-conditions.conditions.items c.deref.result.now
    c.requires.none c.deref.ensures.value (record { filled = c.requires.filled; told = c.in_ok-conditions.ensures }) c.in-None.ensures

pub returns-in-None-clause-clear : goal.returns-in-None-clause-clear
returns-in-None-clause-clear c =
    clear_both c.args.task.now.flash.now c.args.certificate.now Clear
    (clear_told (task_of c.args.task.now) c.args.certificate.now c.args.family.now.nodes c.in_ok-conditions.conditions.items c.deref.result.now
    c.requires.none c.deref.ensures.value (record { filled = c.requires.filled; told = c.in_ok-conditions.ensures }) c.in-None.ensures)

pub returns-in-None-clause-unclear : goal.returns-in-None-clause-unclear
returns-in-None-clause-unclear c =
    unclear_both c.args.task.now.flash.now c.args.certificate.now Clear
    (clear_told (task_of c.args.task.now) c.args.certificate.now c.args.family.now.nodes c.in_ok-conditions.conditions.items c.deref.result.now
    c.requires.none c.deref.ensures.value (record { filled = c.requires.filled; told = c.in_ok-conditions.ensures }) c.in-None.ensures)

pub returns-in-None-clause-never_flagged : goal.returns-in-None-clause-never_flagged
returns-in-None-clause-never_flagged c = λ e.
    clear_firmwares_are_never_flagged c.args.task.now.flash.now c.args.certificate.now (subst HaveSixteenBits c.words.ensures.value c.words_have_16_bits.ensures) c.nodes-nodes.ensures.kept
    (subst (λ (A : List Entry). IsSound (task_with c.args.task.now.flash.now A) c.args.certificate.now) c.requires.none
    (record { nodes = c.args.family.now.nodes; expanded = c.requires.filled; meets = c.requires.meets }))
    (clear_told (task_of c.args.task.now) c.args.certificate.now c.args.family.now.nodes c.in_ok-conditions.conditions.items c.deref.result.now
    c.requires.none c.deref.ensures.value (record { filled = c.requires.filled; told = c.in_ok-conditions.ensures }) c.in-None.ensures)

pub returns-clause-exact : goal.returns-clause-exact
returns-clause-exact c =
    unclear_told (task_of c.args.task.now) c.args.certificate.now c.args.family.now.nodes c.in_ok-conditions.conditions.items c.deref.result.now
    c.requires.none c.deref.ensures.value (record { filled = c.requires.filled; told = c.in_ok-conditions.ensures }) c.in-Some.at c.key.result.now c.in-Some.ensures c.key.ensures

pub returns-clause-clear : goal.returns-clause-clear
returns-clause-clear c =
    clear_both c.args.task.now.flash.now c.args.certificate.now (Unclear c.in-Some.at c.key.result.now.pc)
    (unclear_told (task_of c.args.task.now) c.args.certificate.now c.args.family.now.nodes c.in_ok-conditions.conditions.items c.deref.result.now
    c.requires.none c.deref.ensures.value (record { filled = c.requires.filled; told = c.in_ok-conditions.ensures }) c.in-Some.at c.key.result.now c.in-Some.ensures c.key.ensures)

pub returns-clause-unclear : goal.returns-clause-unclear
returns-clause-unclear c =
    unclear_both c.args.task.now.flash.now c.args.certificate.now (Unclear c.in-Some.at c.key.result.now.pc)
    (unclear_told (task_of c.args.task.now) c.args.certificate.now c.args.family.now.nodes c.in_ok-conditions.conditions.items c.deref.result.now
    c.requires.none c.deref.ensures.value (record { filled = c.requires.filled; told = c.in_ok-conditions.ensures }) c.in-Some.at c.key.result.now c.in-Some.ensures c.key.ensures)

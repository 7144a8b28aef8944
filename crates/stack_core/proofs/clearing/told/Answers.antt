use Rattle.std.proofs.Common.{ℕ, Bool, List, refl, sym, ap, ap₂, subst, ◌∙◌}
use Rattle.replies.specs.declared.status.Status.TheVariants as exit
use Rattle.replies.specs.Places.{premises_text}
use Rattle.replies.specs.Reply.{PlacesReply}
use Rattle.stack_core.proofs.clearing.told.Goals as goal
use Rattle.local_rules.specs.Site.{task_with}

pub returns : goal.returns
returns c =
    let words = c.args.task.now.flash.now in
    let names = c.args.names.now in
    let told =
    c.in_ok-text-2.ensures
    ∙ ap (λ (b : ℕ). premises_text words names b c.as_slice-else-why.result.now c.as_slice-else-why-2.result.now) c.bound-bound.ensures
    ∙ ap₂ (λ (sites nevers : List ℕ). premises_text words names c.args.certificate.now.bound sites nevers) c.as_slice-else-why.ensures c.as_slice-else-why-2.ensures in
    subst (λ (why : Bool). PlacesReply why names (task_with words c.args.task.now.assumptions.now) c.args.certificate.now exit.Done c.in_ok-text-2.text.items) (sym c.if-why.false)
    (record { sites = c.in_ok-sites.sites; nevers = c.in_ok-nevers.nevers; are = c.in_ok-sites.ensures.exact; are_nevers = c.in_ok-nevers.ensures.exact c.args.certificate.now c.requires.filled; says = (refl, told) })

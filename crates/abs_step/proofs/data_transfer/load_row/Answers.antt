use Rattle.std.proofs.Common.{◌∙◌, sym, subst}
use Rattle.local_rules.specs.Local.{loading}
use Rattle.local_rules.specs.Reads.{pointed, read_pointed}
use Rattle.abs_step.specs.Adding.{AreNodesAdded}
use Rattle.abs_step.proofs.Added.{none_added}
use Rattle.abs_step.specs.Sites.{site_of}
use Rattle.abs_step.proofs.data_transfer.load_row.Goals as goal

pub returns-in-None : goal.returns-in-None
returns-in-None c =
    let nodes = c.args.nodes.now in
    let site = c.args.site.now in
    let seen = c.point-pointed.ensures ∙ (λ i. pointed (c.view.ensures i) site.state.now c.args.from.r c.args.from.up) in
    let told = c.read_pointed.ensures ∙ (λ i. read_pointed site.device (c.reads_masks-may.ensures i) site.key.now site.state.now (seen i)) in
    subst (λ read. AreNodesAdded nodes nodes (loading (site_of site) c.args.registers.now c.args.d read)) (sym c.in-None.is ∙ told) (none_added nodes)

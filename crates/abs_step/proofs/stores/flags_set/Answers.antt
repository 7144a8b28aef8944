use Rattle.std.proofs.Common.{◌∙◌, sym, ap, subst, subst₂, [], ◌∷◌}
use Rattle.bit_domain.specs.declared.bits.Tri.{Tri}
use Rattle.bit_domain.specs.TriByte.{tri_at}
use Rattle.abs_state.specs.declared.state.AbsState.{AbsState}
use Rattle.node_keys.specs.declared.keys.NodeKey.{NodeKey}
use Rattle.local_rules.specs.Raw.{Raw, one, moves_to}
use Rattle.local_rules.specs.Writes.{sreg_written}
use Rattle.abs_step.specs.Adding.{Adds}
use Rattle.abs_step.proofs.Forgetting.{is_flags_set}
use Rattle.abs_step.proofs.stores.flags_set.Goals as goal
use Rattle.abs_step.proofs.stores.flags_set.Goals.{in-Zero, in-One, in-Any}

pub returns : goal.returns
returns c =
    let write = c.args.write.now in
    let nodes = c.args.nodes.now in
    let after : AbsState = record c.in_ok-after.after { facts = c.end_facts.new.facts } in
    let due : Tri → Raw = λ t. sreg_written t write.key after c.args.is_out in
    subst (λ (s : AbsState). Adds nodes c.match-bit.nodes c.match-bit.added (sreg_written (tri_at write.value.bits 7) write.key s c.args.is_out))
    (is_flags_set write.state.now c.in_ok-after.after write.value c.flags_written.result c.end_facts.new.facts c.flags_written.ensures c.in_ok-after.ensures.ok c.end_facts.ensures)
    (elim c.match-bit.branch [
      | in-Zero w ↦
          subst₂ (λ n r. Adds nodes n r (due (tri_at write.value.bits 7))) (sym w.nodes-is) (sym w.added-is)
          (subst (Adds nodes w.add_copy-added.new.nodes w.add_copy-added.result)
          (ap (λ (k : NodeKey). one k after) c.with_i-off.ensures ∙ ap due (sym w.in-Zero.is ∙ c.bit.ensures)) w.add_copy-added.ensures)
      | in-One w ↦
          subst₂ (λ n r. Adds nodes n r (due (tri_at write.value.bits 7))) (sym w.nodes-is) (sym w.added-is)
          (subst (Adds nodes w.add_copy-added-in-One.new.nodes w.add_copy-added-in-One.result)
          (ap (λ (k : NodeKey). one k after) c.with_i-on.ensures ∙ ap due (sym w.in-One.is ∙ c.bit.ensures)) w.add_copy-added-in-One.ensures)
      | in-Any w ↦
          subst₂ (λ n r. Adds nodes n r (due (tri_at write.value.bits 7))) (sym w.nodes-is) (sym w.added-is)
          (subst (Adds nodes w.add_two-added.new.nodes w.add_two-added.result)
          ((λ i. moves_to (record { key = c.with_i-off.ensures i; state = after } ∷ record { key = c.with_i-on.ensures i; state = after } ∷ [])) ∙ ap due (sym w.in-Any.is ∙ c.bit.ensures))
          w.add_two-added.ensures)
    ])

use Rattle.std.proofs.Common.{◌≡◌, ◌∙◌, sym, true}
use Rattle.node_keys.specs.declared.keys.InstKey.{InstKey}
use Rattle.node_keys.specs.Order.{same_inst}
use Rattle.node_keys.proofs.AllLaws.{keys_are_ordered}
use Rattle.round_nesting.proofs.Keeping.{inserted, root_more, other_more, apart_more}
use Rattle.round_nesting.proofs.nesting.keep_inst.Goals as goal

inst_is : (a b : InstKey) → same_inst a b ≡ true → a ≡ b
inst_is a b h = (keys_are_ordered.same_insts a b).0 h

pub returns-then-eq-clause-more : goal.returns-then-eq-clause-more
returns-then-eq-clause-more c = root_more c.args.has_root.now c.args.others.now.keys c.args.inst.now (c.eq.ensures.same.0 c.if-eq.true ∙ c.root.ensures)

pub returns-clause-apart : goal.returns-clause-apart
returns-clause-apart c =
    apart_more c.args.others.now.keys c.insert.new.self.keys c.args.inst.now c.requires.apart
    (λ same. let t = c.eq.ensures.same.1 (same ∙ sym c.root.ensures) in let f = c.if-eq.false in absurd (cc))
    (inserted same_inst inst_is c.args.others.now.keys c.insert.new.self.keys c.args.inst.now c.in_ok-insert.ensures.keys) c.insert.ensures.unique

pub returns-clause-more : goal.returns-clause-more
returns-clause-more c =
    other_more c.args.has_root.now c.args.others.now.keys c.insert.new.self.keys c.args.inst.now
    (inserted same_inst inst_is c.args.others.now.keys c.insert.new.self.keys c.args.inst.now c.in_ok-insert.ensures.keys)

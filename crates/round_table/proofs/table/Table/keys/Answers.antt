use Rattle.std.proofs.Common.{sym, subst, List, Contains}
use Rattle.std.proofs.lemmas.Result.{IfOk-weaker}
use Rattle.node_keys.specs.declared.keys.NodeKey.{NodeKey}
use Rattle.round_table.proofs.Keys.{key_there}
use Rattle.round_table.proofs.table.Table.keys.Goals as goal

pub returns : goal.returns
returns c =
    IfOk-weaker c.keys_in.result _ _
    (λ all is k s has. subst (λ (l : List NodeKey). Contains l k) (sym is) (key_there c.self.inside.pool c.self.inside.map.entries c.args.self.now k s c.self.view_is has))
    c.keys_in.ensures

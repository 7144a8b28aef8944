-- A certificate has at most one explanation.
use Rattle.std.proofs.Common.{◌≡◌, refl, sym, ap, ◌∙◌, subst, ℕ, ⊎_elim, List, [], ◌∷◌, ◌++◌, map, Option, Some, None, Contains}
use Rattle.std.specs.Prelude.{◌↔◌}
use Rattle.std.specs.List.Sorted.{IsStrictlySortedBy}
use Rattle.std.specs.declared.cmp.Ordering.TheVariants.{Less}
use Rattle.basics.specs.Lists.{one_at}
use Rattle.basics.specs.Items.{none_in, first_in, further_in, first_or_further}
use Rattle.edge_rules.specs.Places.{all_of}
use Rattle.avr_model.specs.Devices.{device_of, back_of}
use Rattle.node_keys.specs.declared.keys.InstKey.{InstKey}
use Rattle.node_keys.specs.declared.keys.NodeKey.{NodeKey}
use Rattle.node_keys.specs.Keys.{offset_of}
use Rattle.node_keys.specs.Order.{node_cmp}
use Rattle.node_keys.proofs.AllLaws.{keys_are_ordered}
use Rattle.local_rules.specs.declared.local.Node.{Node}
use Rattle.edge_rules.specs.Views.{key_of}
use Rattle.edge_laws.specs.Expansions.{FilledOrMissing}
use Rattle.edge_laws.proofs.ExpansionLaws.{filled_lists_are_shown}
use Rattle.instance_graph.specs.declared.graph.Link.{Link}
use Rattle.instance_graph.specs.declared.graph.GraphWay.{GraphWay}
use Rattle.instance_graph.specs.declared.graph.GraphWay.TheVariants.{Enters, Recur}
use Rattle.shortest_walk.specs.Graph.{PointsTo}
use Rattle.shortest_walk.specs.Walk.{WalksOn, IsWalk, IsShortest, IsFirstOfShortest}
use Rattle.shortest_walk.proofs.AllLaws.{first_is_one}
use Rattle.family_graph.specs.Chains.{IsDeepest}
use Rattle.family_graph.specs.Laws.{DeepestChainsAreOne}
use Rattle.chain_explain.specs.declared.explanation.Explanation.{Explanation}
use Rattle.chain_explain.specs.declared.explanation.Part.{Part}
use Rattle.chain_explain.specs.Walks.{IsWay, pc_at}
use Rattle.chain_explain.specs.declared.explanation.PartPoint.TheVariants as point
use Rattle.chain_explain.specs.Explanation.{IsNodePart, IsPartBy, IsPart, AreParts, Explains, adds_by}
use Rattle.chain_explain.specs.Laws.{ExplanationsAreOne}
use Rattle.chain_explain.proofs.Numbers.{same_number}
use Rattle.local_rules.specs.Site.{Task}

-- ---- walks go by where nodes lead, and by which starts there are

module _ (graph other : List (List ℕ)) (leads : (i j : ℕ) → PointsTo graph i j → PointsTo other i j) (starts more : List ℕ) (begin : (i : ℕ) → Contains starts i → Contains more i) where
  goes_too : (target i : ℕ) (rest : List ℕ) → WalksOn graph target i rest → WalksOn other target i rest
  goes_too target i [] h = h
  goes_too target i (j ∷ rest) h = (leads i j h.0, goes_too target j rest h.1)

  walks_too : (target : ℕ) (nodes : List ℕ) → IsWalk graph starts target nodes → IsWalk other more target nodes
  walks_too target nodes w =
      record { first = w.first; rest = w.rest; are = w.are; begins = begin w.first w.begins; goes = goes_too target w.first w.rest w.goes }

module _ (graph other : List (List ℕ)) (leads : (i j : ℕ) → PointsTo graph i j ↔ PointsTo other i j) (starts more : List ℕ) (begin : (i : ℕ) → Contains starts i ↔ Contains more i) where
  shortest_too : (target : ℕ) (nodes : List ℕ) → IsShortest graph starts target nodes → IsShortest other more target nodes
  shortest_too target nodes s =
      record {
        walk = walks_too graph other (λ i j. (leads i j).0) starts more (λ i. (begin i).0) target nodes s.walk;
        least = λ walk w. s.least walk (walks_too other graph (λ i j. (leads i j).1) more starts (λ i. (begin i).1) target walk w);
      }

module _ (graph other : List (List ℕ)) (leads : (i j : ℕ) → PointsTo graph i j ↔ PointsTo other i j) (starts more : List ℕ) (begin : (i : ℕ) → Contains starts i ↔ Contains more i) where
  pub first_too : (target : ℕ) (nodes : List ℕ) → IsFirstOfShortest graph starts target nodes → IsFirstOfShortest other more target nodes
  first_too target nodes f =
      record {
        shortest = shortest_too graph other leads starts more begin target nodes f.shortest;
        first = λ walk s. f.first walk (shortest_too other graph (λ i j. ((leads i j).1, (leads i j).0)) more starts (λ i. ((begin i).1, (begin i).0)) target walk s);
      }

-- ---- lists of nodes in one order

not_both : (a b : NodeKey) → node_cmp a b ≡ Less → node_cmp b a ≡ Less → ⊥
not_both a b ab ba =
    let both = keys_are_ordered.nodes.trans a b a ab ba in
    let same = (keys_are_ordered.equal_nodes a a).1 refl in
    cc

-- ascending lists with the same nodes are equal
same_nodes : (xs ys : List Node) → IsStrictlySortedBy node_cmp (map key_of xs) → IsStrictlySortedBy node_cmp (map key_of ys) → ((n : Node) → Contains xs n → Contains ys n)
    → ((n : Node) → Contains ys n → Contains xs n) → xs ≡ ys
unfolding IsStrictlySortedBy
same_nodes [] [] s t up down = refl
same_nodes [] (y ∷ ys) s t up down = absurd (none_in y (down y (first_in y ys)))
same_nodes (x ∷ xs) [] s t up down = absurd (none_in x (up x (first_in x xs)))
same_nodes (x ∷ xs) (y ∷ ys) s t up down =
    let head : x ≡ y =
    ⊎_elim (λ e. e)
    (λ i. ⊎_elim (λ e. sym e)
    (λ j. absurd (not_both y.key x.key (all_of (λ k. node_cmp y.key k ≡ Less) ys x t.0 i) (all_of (λ k. node_cmp x.key k ≡ Less) xs y s.0 j)))
    (first_or_further x y xs (down y (first_in y ys))))
    (first_or_further y x ys (up x (first_in x xs))) in
    let tail : xs ≡ ys = same_nodes xs ys s.1 t.1
    (λ n i. ⊎_elim (λ e. absurd (not_itself x n e head (all_of (λ k. node_cmp x.key k ≡ Less) xs n s.0 i))) (λ j. j) (first_or_further y n ys (up n (further_in x n xs i))))
    (λ n i. ⊎_elim (λ e. absurd (itself y n e head (all_of (λ k. node_cmp y.key k ≡ Less) ys n t.0 i))) (λ j. j) (first_or_further x n xs (down n (further_in y n ys i)))) in
    λ k. head k ∷ tail k
  where
    less_itself : (k : NodeKey) → node_cmp k k ≡ Less → ⊥
    less_itself k lt = let same = (keys_are_ordered.equal_nodes k k).1 refl in cc

    not_itself : (a n : Node) → n ≡ y → a ≡ y → node_cmp a.key n.key ≡ Less → ⊥
    not_itself a n e h lt = less_itself y.key (subst (λ (z : Node). node_cmp z.key y.key ≡ Less) h (subst (λ (z : Node). node_cmp a.key z.key ≡ Less) e lt))

    itself : (b n : Node) → n ≡ x → x ≡ b → node_cmp b.key n.key ≡ Less → ⊥
    itself b n e h lt = less_itself x.key (subst (λ (z : Node). node_cmp z.key x.key ≡ Less) (sym h) (subst (λ (z : Node). node_cmp b.key z.key ≡ Less) e lt))

-- ---- explanations

module _ (task : Task) (nodes : List Node) (ascend : IsStrictlySortedBy node_cmp (map key_of nodes)) where
  same_way : (inst : InstKey) (target : ℕ) (walk walk' : List ℕ) → IsWay task nodes inst target walk → IsWay task nodes inst target walk' → walk ≡ walk'
  same_way inst target walk walk' a b =
      let f = first_too b.graph a.graph (λ i j. (λ h. (a.moves i j).1 ((b.moves i j).0 h), λ h. (b.moves i j).1 ((a.moves i j).0 h))) b.starts a.starts
      (λ i. (λ h. (a.begin i).1 ((b.begin i).0 h), λ h. (b.begin i).1 ((a.begin i).0 h))) target b.numbers b.first in
      a.along ∙ (ap (map (pc_at nodes)) (first_is_one a.graph a.starts target a.numbers b.numbers a.first f) ∙ sym b.along)

  same_node_part : (reached : List Node) (link : Link) (p q : Part) → IsNodePart task nodes reached link p → IsNodePart task nodes reached link q → p ≡ q
  same_node_part reached link p q a b =
      let node : a.node ≡ b.node = one_at reached link.node a.node b.node a.at b.at in
      let target : a.target ≡ b.target = same_number nodes ascend a.target b.target a.node b.node a.is b.is (ap key_of node) in
      let other : IsWay task nodes a.node.key.inst a.target b.walk =
      subst (λ (t : ℕ). IsWay task nodes a.node.key.inst t b.walk) (sym target) (subst (λ (n : Node). IsWay task nodes n.key.inst b.target b.walk) (sym node) b.way) in
      let inst : p.inst ≡ q.inst = a.inst ∙ (ap (λ (n : Node). n.key.inst) node ∙ sym b.inst) in
      let adds : p.adds ≡ q.adds = a.adds ∙ (ap (λ (n : Node). adds_by (back_of (device_of task.flash)) (offset_of n.key.sp) link.way) node ∙ sym b.adds) in
      let walk : a.walk ≡ b.walk = same_way a.node.key.inst a.target a.walk b.walk a.way other in
      let stands : p.point ≡ q.point = a.point ∙ ((λ k. point.Node (node k).key.pc (walk k)) ∙ sym b.point) in
      λ k. record { inst = inst k; point = stands k; adds = adds k }

  same_part_by : (reached : List Node) (link : Link) (rest : List Link) (p q : Part) (way : Option GraphWay) → IsPartBy task nodes reached link rest p way → IsPartBy task nodes reached link rest q way → p ≡ q
  same_part_by reached link rest p q (Some Recur) a b =
      let inst : p.inst ≡ q.inst = a.inst ∙ sym b.inst in
      let stands : p.point ≡ q.point = a.point ∙ sym b.point in
      let adds : p.adds ≡ q.adds = a.adds ∙ sym b.adds in
      λ k. record { inst = inst k; point = stands k; adds = adds k }
  same_part_by reached link rest p q (Some (Enters kind)) a b = same_node_part reached link p q a b
  same_part_by reached link rest p q None a b = same_node_part reached link p q a b

  same_part : (reached : List Node) (link : Link) (rest : List Link) (p q : Part) → IsPart task nodes reached link rest p → IsPart task nodes reached link rest q → p ≡ q
  same_part reached link rest p q a b = same_part_by reached link rest p q link.way a b

  same_parts : (reached : List Node) (links : List Link) (ps qs : List Part) → AreParts task nodes reached links [] ps → AreParts task nodes reached links [] qs → ps ≡ qs
  same_parts reached [] [] [] a b = refl
  same_parts reached [] [] (q ∷ qs) a b = absurd b
  same_parts reached [] (p ∷ ps) qs a b = absurd a
  same_parts reached (l ∷ links) [] qs a b = absurd a
  same_parts reached (l ∷ links) (p ∷ ps) [] a b = absurd b
  same_parts reached (l ∷ links) (p ∷ ps) (q ∷ qs) a b =
      let head = same_part reached l (links ++ []) p q a.0 b.0 in
      let tail = same_parts reached links ps qs a.1 b.1 in
      λ k. head k ∷ tail k

  pub same_explanation : DeepestChainsAreOne → (x y : Explanation) → Explains task nodes x → Explains task nodes y → x ≡ y
  same_explanation deepest x y a b =
      let reached : a.reached ≡ b.reached =
      same_nodes a.reached b.reached a.are_reached.ascending b.are_reached.ascending (λ n h. (b.are_reached.exact n).1 ((a.are_reached.exact n).0 h))
      (λ n h. (a.are_reached.exact n).1 ((b.are_reached.exact n).0 h)) in
      let d = subst (λ (ns : List Node). IsDeepest task ns y.least b.links) (sym reached) b.deepest in
      let least : x.least ≡ y.least = deepest.need task a.reached x.least y.least a.links b.links a.deepest d in
      let links : a.links ≡ b.links = deepest.links task a.reached x.least y.least a.links b.links a.deepest d in
      let others : AreParts task nodes a.reached a.links [] y.parts =
      subst (λ (ls : List Link). AreParts task nodes a.reached ls [] y.parts) (sym links) (subst (λ (ns : List Node). AreParts task nodes ns b.links [] y.parts) (sym reached) b.parts) in
      let parts : x.parts ≡ y.parts = same_parts a.reached a.links x.parts y.parts a.parts others in
      λ k. record { least = least k; parts = parts k }

pub explanations_are_one : FilledOrMissing → DeepestChainsAreOne → ExplanationsAreOne
explanations_are_one filled deepest task c x y claim a b =
    let nodes : b.nodes ≡ a.nodes = filled.one task c.nodes b.nodes a.nodes b.filled a.filled in
    let ascend = (filled_lists_are_shown.shown task c.nodes a.nodes a.filled claim.nodes_ascend).ascending in
    same_explanation task a.nodes ascend deepest x y a.explains (subst (λ (ns : List Node). Explains task ns y) nodes b.explains)

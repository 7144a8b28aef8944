-- A chain continues by one link.
use Rattle.std.proofs.Common.{◌≡◌, ℕ, ◌+◌, Some, None, List, [], ◌∷◌, ◌++◌, sym, subst, arith, append_assoc}
use Rattle.instance_graph.specs.declared.chaining.ChainTurn.{ChainTurn}
use Rattle.instance_graph.specs.declared.chaining.ChainTurn.TheVariants.{Ends, Enters}
use Rattle.instance_graph.specs.declared.graph.Entered.{Entered}
use Rattle.instance_graph.specs.declared.graph.GraphInst.{GraphInst}
use Rattle.instance_graph.specs.declared.graph.Link.{Link}
use Rattle.instance_graph.specs.declared.graph.ClosedNode.{ClosedNode}
use Rattle.instance_graph.specs.Graph.{IsGraph}
use Rattle.instance_graph.specs.Least.{IsLeast}
use Rattle.instance_graph.specs.Chain.{IsFirst, IsNodeUpTo, IsEdgeUpTo, IsDeepNode, IsDeepEdge, IsChainFrom, IsChain, ends, goes, HaveClosedNodes}
use Rattle.instance_graph.specs.Turn.{IsOnWay, IsTurn, AreLeastNeeds}

pub least_needs : (back : ℕ) (gs : List GraphInst) (ranks needs : List ℕ) → IsLeast back gs ranks needs → AreLeastNeeds back gs needs
least_needs back gs ranks needs l = record { same = l.needs_length; are = l.are_needs; least = l.least_needs }

pub on_way_first : (back : ℕ) (gs : List GraphInst) (needs : List ℕ) → IsGraph gs → HaveClosedNodes gs → IsOnWay back gs needs 0 0 []
on_way_first back gs needs graph nodes = record { inside = graph.some; closed = nodes.root; depth = omega arith; whole = λ rest chain. chain }

module _ (back : ℕ) (gs : List GraphInst) (needs : List ℕ) (i above : ℕ) (links : List Link) (way : IsOnWay back gs needs i above links) where
  pub ends_here : (p : ClosedNode) → IsFirst (IsDeepNode gs needs i) IsNodeUpTo p → IsChain back gs needs (links ++ record { inst = i; node = p.node; depth = above + p.offset; way = None } ∷ [])
  ends_here p first = way.whole (record { inst = i; node = p.node; depth = above + p.offset; way = None } ∷ []) (ends i above p first)

  module _ (e : Entered) (no_end : (p : ClosedNode) → IsDeepNode gs needs i p → ⊥) (first : IsFirst (IsDeepEdge back gs needs i) (IsEdgeUpTo gs) e) where
    abbrev link : Link
    link = record { inst = i; node = e.node; depth = above + e.offset; way = Some e.way }

    pub goes_here : IsGraph gs → HaveClosedNodes gs → IsOnWay back gs needs e.into (above + (e.offset + back)) (links ++ link ∷ [])
    goes_here graph nodes = record {
      inside = graph.within i e first.is.0;
      closed = nodes.entered i e first.is.0;
      depth = omega (arith, way.depth, first.is.1);
      whole = λ rest chain.
          let more = goes i above e rest no_end first (subst (λ n. IsChainFrom back gs needs e.into n rest) (omega arith) chain) in
          subst (IsChain back gs needs) (sym (append_assoc links (link ∷ []) rest)) (way.whole (link ∷ rest) more);
    }

-- ---- where it goes on, by the lists that the code has on the way
turned : (back : ℕ) (gs gs0 : List GraphInst) (needs needs0 : List ℕ) (i : ℕ) (t : ChainTurn) → gs0 ≡ gs → needs0 ≡ needs → IsTurn back gs0 needs0 i t → IsTurn back gs needs i t
turned back gs gs0 needs needs0 i t eg en so = subst (λ xs. IsTurn back xs needs i t) eg (subst (λ ns. IsTurn back gs0 ns i t) en so)

pub turned_end : (back : ℕ) (gs gs0 : List GraphInst) (needs needs0 : List ℕ) (i : ℕ) (t : ChainTurn) (p : ClosedNode) → gs0 ≡ gs → needs0 ≡ needs → t ≡ Ends p → IsTurn back gs0 needs0 i t → IsFirst (IsDeepNode gs needs i) IsNodeUpTo p
turned_end back gs gs0 needs needs0 i t p eg en is so = subst (IsTurn back gs needs i) is (turned back gs gs0 needs needs0 i t eg en so)

pub turned_way : (back : ℕ) (gs gs0 : List GraphInst) (needs needs0 : List ℕ) (i : ℕ) (t : ChainTurn) (e : Entered) → gs0 ≡ gs → needs0 ≡ needs → t ≡ Enters e → IsTurn back gs0 needs0 i t → ((p : ClosedNode) → IsDeepNode gs needs i p → ⊥) × IsFirst (IsDeepEdge back gs needs i) (IsEdgeUpTo gs) e
turned_way back gs gs0 needs needs0 i t e eg en is so = subst (IsTurn back gs needs i) is (turned back gs gs0 needs needs0 i t eg en so)

-- The parts of a chain.
use Rattle.std.proofs.Common.{◌≡◌, refl, sym, ap, ◌∙◌, subst, ℕ, ◌+◌, ◌≤◌, List, [], ◌∷◌, ◌++◌, Option, Some, inl, inr, slice_get, slice_index, arith}
use Rattle.std.proofs.lemmas.List.Sums.{sum_by-cons}
use Rattle.std.proofs.lemmas.Option.{slice_get_within}
use Rattle.basics.specs.Lists.{one_at}
use Rattle.node_keys.specs.declared.keys.InstKey.{InstKey}
use Rattle.node_keys.specs.declared.keys.SpForm.TheVariants.{Closed}
use Rattle.node_keys.specs.declared.keys.EdgeKind.{EdgeKind}
use Rattle.node_keys.specs.Keys.{root_inst, offset_of, cut_at}
use Rattle.avr_model.specs.declared.assumption.Entry.{Entry}
use Rattle.avr_model.specs.Devices.{device_of, back_of}
use Rattle.avr_model.specs.State.{SIZE}
use Rattle.local_rules.specs.declared.local.Node.{Node}
use Rattle.edge_rules.specs.Edges.{Enters, by_call, by_interrupt}
use Rattle.edge_rules.specs.Expansion.{IsFilled}
use Rattle.instance_graph.specs.declared.graph.GraphInst.{GraphInst}
use Rattle.instance_graph.specs.declared.graph.Entered.{Entered}
use Rattle.instance_graph.specs.declared.graph.Link.{Link}
use Rattle.instance_graph.specs.declared.graph.GraphWay.{GraphWay}
use Rattle.instance_graph.specs.declared.graph.GraphWay.TheVariants.{Recur}
use Rattle.instance_graph.specs.declared.graph.GraphWay.TheVariants.{Enters as Enters_by}
use Rattle.instance_graph.specs.Chain.{IsChainFrom, ends, goes}
use Rattle.family_graph.specs.Graphs.{insts_of, HasEntryOf, IsGraphOf}
use Rattle.certificate.specs.Claims.{Claim}
use Rattle.family_graph.specs.Chains.{IsDeepest, BeginsAtRoot}
use Rattle.chain_explain.specs.declared.explanation.Explanation.{Explanation}
use Rattle.chain_explain.specs.declared.explanation.Part.{Part}
use Rattle.chain_explain.specs.Walks.{IsWay}
use Rattle.chain_explain.specs.declared.explanation.PartPoint.TheVariants as point
use Rattle.chain_explain.specs.Explanation.{adds_by, IsNodePart, entry_at, entry_next, IsRecurPart, IsPartBy, IsPart, AreParts, Explains}
use Rattle.chain_explain.specs.Told.{sum_of, IsPoint, GoOn, Nest}
use Rattle.chain_explain.specs.Moves.{IsThere, AreThere}
use Rattle.local_rules.specs.Site.{Task}

-- ---- the root's instance

entered_other : {task : Task} {n : Node} {way : EdgeKind} {inst : InstKey} {back : ℕ} → Enters task n way inst back → inst ≡ root_inst → ⊥
entered_other (by_call offset site clean form member) same = let k = ap (λ (i : InstKey). i.kind) same in cc
entered_other (by_interrupt offset v clears clean form i delay enabled allowed clearable) same = let k = ap (λ (j : InstKey). j.kind) same in cc

root_whole : (A : List Entry) (depth : ℕ) → cut_at A root_inst ≡ Some depth → ⊥
unfolding cut_at
root_whole A depth cut = cc

cut_other : (A : List Entry) (inst : InstKey) (depth : ℕ) → cut_at A inst ≡ Some depth → inst ≡ root_inst → ⊥
cut_other A inst depth cut same = root_whole A depth (subst (λ (k : InstKey). cut_at A k ≡ Some depth) same cut)

module _ (task : Task) (nodes reached : List Node) (gs : List GraphInst) (needs : List ℕ) (family : IsGraphOf task reached gs) where
  -- the bytes of a return address
  abbrev back : ℕ
  back = back_of (device_of task.flash)

  -- no edge leads to the root
  into_other : (i : ℕ) (e : Entered) (h : HasEntryOf task reached (insts_of gs) i e) → h.into ≡ root_inst → ⊥
  into_other i e h same = elim h.edge [ inl q ↦ entered_other q.enters same | inr q ↦ cut_other task.assumptions h.into e.offset q.cut same ]

  -- the root stands at the beginning of a chain
  abbrev IsTop : ℕ → ℕ → Type 0
  IsTop i above = (inst : InstKey) → slice_get (insts_of gs) i ≡ Some inst → inst ≡ root_inst → above ≡ 0

  top_next : (i : ℕ) (e : Entered) (above : ℕ) (h : HasEntryOf task reached (insts_of gs) i e) → IsTop e.into above
  top_next i e above h inst is same = absurd (into_other i e h (one_at (insts_of gs) e.into h.into inst h.leads is ∙ same))

  -- the family has each link's node
  there_from : (i above : ℕ) (links : List Link) → above + slice_index needs i ≤ SIZE → IsChainFrom back gs needs i above links → AreThere reached links
  there_from i above links low (ends _ _ p first) =
      let h = (family.closed i p).0 first.is.0 in
      (slice_get_within reached p.node h.of.node h.of.at, tt)
  there_from i above links low (goes _ _ e rest no_end first chain) =
      let h = (family.entered i e).0 first.is.0 in
      let link : Link = record { inst = i; node = e.node; depth = above + e.offset; way = Some e.way } in (
        elim h.edge [
          | inl q ↦ subst (λ (w : GraphWay). IsThere reached link (Some w)) (sym q.way) (slice_get_within reached e.node q.node q.at)
          | inr q ↦ subst (λ (w : GraphWay). IsThere reached link (Some w)) (sym q.way) (let deep = first.is.1 in omega (arith, deep, low))
        ],
        there_from e.into (above + e.offset + back) rest (let deep = first.is.1 in omega (arith, deep, low)) chain,
      )

  -- ---- parts by the ways of their links

  as_node : (link : Link) (rest : List Link) (part : Part) (kind : EdgeKind) → link.way ≡ Some (Enters_by kind) → IsPart task nodes reached link rest part → IsNodePart task nodes reached link part
  as_node link rest part kind e h = subst (IsPartBy task nodes reached link rest part) e h

  as_recur : (link : Link) (rest : List Link) (part : Part) → link.way ≡ Some Recur → IsPart task nodes reached link rest part → IsRecurPart back reached link rest part
  as_recur link rest part e h = subst (IsPartBy task nodes reached link rest part) e h

  -- the bytes of a link at a node
  adds_on : (offset : ℕ) (way : Option GraphWay) (w : GraphWay) → way ≡ Some w → adds_by back offset way ≡ offset + back
  adds_on offset way w e = ap (adds_by back offset) e

  -- the offset of a part's node
  offset_is : (link : Link) (part : Part) (is : IsNodePart task nodes reached link part) (n : Node) (offset : ℕ) → slice_get reached link.node ≡ Some n → n.key.sp ≡ Closed offset
      → offset_of is.node.key.sp ≡ offset
  offset_is link part is n offset at closed =
      let same : is.node ≡ n = one_at reached link.node is.node n is.at at in
      ap (λ (x : Node). offset_of x.key.sp) same ∙ ap offset_of closed

  -- the bytes of the part for an edge
  adds_is : (i above : ℕ) (e : Entered) (rest : List Link) (part : Part) → IsTop i above → (h : HasEntryOf task reached (insts_of gs) i e)
      → IsPart task nodes reached (record { inst = i; node = e.node; depth = above + e.offset; way = Some e.way }) rest part → part.adds ≡ e.offset + back
  adds_is i above e rest part top h is =
      let link : Link = record { inst = i; node = e.node; depth = above + e.offset; way = Some e.way } in
      elim h.edge [
        | inl q ↦
            let x = as_node link rest part q.kind (ap Some q.way) is in
            let o = offset_is link part x q.node e.offset q.at q.closed in
            let a : part.adds ≡ offset_of x.node.key.sp + back = x.adds in
            omega (arith, o, a)
        | inr q ↦
            let x = as_recur link rest part (ap Some q.way) is in
            let a : part.adds ≡ above + e.offset + back = x.adds in
            let none = top h.inst h.is q.root in
            omega (arith, a, none)
      ]

  sums_from : (i above : ℕ) (links : List Link) (parts : List Part) → IsTop i above → IsChainFrom back gs needs i above links → AreParts task nodes reached links [] parts
      → sum_of parts ≡ slice_index needs i
  sums_from i above links [] top (ends _ _ p first) h = absurd h
  sums_from i above links (part ∷ []) top (ends _ _ p first) h =
      let at = (family.closed i p).0 first.is.0 in
      let o = offset_is _ part h.0 at.of.node p.offset at.of.at at.of.closed in
      let a : part.adds ≡ offset_of h.0.node.key.sp = h.0.adds in
      let d = first.is.1 in
      let s : sum_of (part ∷ []) ≡ part.adds + 0 = sum_by-cons (λ (p : Part). p.adds) part [] in
      omega (arith, o, a, d, s)
  sums_from i above links (part ∷ next ∷ parts) top (ends _ _ p first) h = absurd h.1
  sums_from i above links [] top (goes _ _ e rest no_end first chain) h = absurd h
  sums_from i above links (part ∷ parts) top (goes _ _ e rest no_end first chain) h =
      let at = (family.entered i e).0 first.is.0 in
      let a = adds_is i above e (rest ++ []) part top at h.0 in
      let d = first.is.1 in
      let below = sums_from e.into (above + e.offset + back) rest parts (top_next i e (above + e.offset + back) at) chain h.1 in
      let s : sum_of (part ∷ parts) ≡ part.adds + sum_of parts = sum_by-cons (λ (p : Part). p.adds) part parts in
      omega (arith, a, d, below, s)

  -- the part's point is the link's node
  point_is : (link : Link) (part : Part) (is : IsNodePart task nodes reached link part) (n : Node) (offset : ℕ) → slice_get reached link.node ≡ Some n → n.key.sp ≡ Closed offset
      → IsPoint task nodes part n offset
  point_is link part is n offset at closed =
      let same : is.node ≡ n = one_at reached link.node is.node n is.at at in
      record {
        number = is.target;
        at = subst (λ (x : Node). slice_get nodes is.target ≡ Some x) same is.is;
        inst = sym (is.inst ∙ ap (λ (x : Node). x.key.inst) same);
        walk = is.walk;
        point = is.point ∙ ap (λ (x : Node). point.Node x.key.pc is.walk) same;
        closed = closed;
        way = subst (λ (inst : InstKey). IsWay task nodes inst is.target is.walk) (sym is.inst) is.way;
      }

  -- the instance of a chain's first part
  inst_from : (i above : ℕ) (links : List Link) (part : Part) (parts : List Part) → IsChainFrom back gs needs i above links → AreParts task nodes reached links [] (part ∷ parts)
      → (inst : InstKey) → slice_get (insts_of gs) i ≡ Some inst → part.inst ≡ inst
  inst_from i above links part parts (ends _ _ p first) h inst is =
      let at = (family.closed i p).0 first.is.0 in
      h.0.inst ∙ (ap (λ (x : Node). x.key.inst) (one_at reached p.node h.0.node at.of.node h.0.at at.of.at) ∙ (at.of.same ∙ one_at (insts_of gs) i at.inst inst at.is is))
  inst_from i above links part parts (goes _ _ e rest no_end first chain) h inst is =
      let at = (family.entered i e).0 first.is.0 in
      let link : Link = record { inst = i; node = e.node; depth = above + e.offset; way = Some e.way } in
      elim at.edge [
        | inl q ↦
            let x = as_node link (rest ++ []) part q.kind (ap Some q.way) h.0 in
            x.inst ∙ (ap (λ (n : Node). n.key.inst) (one_at reached e.node x.node q.node x.at q.at) ∙ (q.same ∙ one_at (insts_of gs) i at.inst inst at.is is))
        | inr q ↦
            let x = as_recur link (rest ++ []) part (ap Some q.way) h.0 in
            x.inst ∙ (sym q.root ∙ one_at (insts_of gs) i at.inst inst at.is is)
      ]

  -- the word with which an instance begins, by a chain from it
  entry_from : (i above : ℕ) (links behind : List Link) → IsChainFrom back gs needs i above links → (inst : InstKey) → slice_get (insts_of gs) i ≡ Some inst → (inst ≡ root_inst → ⊥)
      → entry_next reached (links ++ behind) ≡ inst.entry
  entry_from i above links behind (ends _ _ p first) inst is other =
      let at = (family.closed i p).0 first.is.0 in
      ap entry_at at.of.at ∙ ap (λ (k : InstKey). k.entry) (at.of.same ∙ one_at (insts_of gs) i at.inst inst at.is is)
  entry_from i above links behind (goes _ _ e rest no_end first chain) inst is other =
      let at = (family.entered i e).0 first.is.0 in
      elim at.edge [
        | inl q ↦ ap entry_at q.at ∙ ap (λ (k : InstKey). k.entry) (q.same ∙ one_at (insts_of gs) i at.inst inst at.is is)
        | inr q ↦ absurd (other (sym (one_at (insts_of gs) i at.inst inst at.is is) ∙ q.root))
      ]

  go_on_from : (i above : ℕ) (links : List Link) (part : Part) (parts : List Part) → IsTop i above → IsChainFrom back gs needs i above links → AreParts task nodes reached links [] (part ∷ parts)
      → GoOn task nodes part parts
  go_on_from i above links part [] top (ends _ _ p first) h =
      let at = (family.closed i p).0 first.is.0 in
      let o = offset_is _ part h.0 at.of.node p.offset at.of.at at.of.closed in
      let adds : p.offset ≡ part.adds = let a : part.adds ≡ offset_of h.0.node.key.sp = h.0.adds in omega (arith, o, a) in
      record { node = at.of.node; is = subst (IsPoint task nodes part at.of.node) adds (point_is _ part h.0 at.of.node p.offset at.of.at at.of.closed) }
  go_on_from i above links part (next ∷ parts) top (ends _ _ p first) h = absurd h.1
  go_on_from i above links part [] top (goes _ _ e rest no_end first chain) h = absurd (never e.into (above + e.offset + back) rest chain h.1)
    where
      never : (j over : ℕ) (ls : List Link) → IsChainFrom back gs needs j over ls → AreParts task nodes reached ls [] [] → ⊥
      never j over ls (ends _ _ p first) x = x
      never j over ls (goes _ _ d more none first c) x = x
  go_on_from i above links part (next ∷ parts) top (goes _ _ e rest no_end first chain) h =
      let at = (family.entered i e).0 first.is.0 in
      let link : Link = record { inst = i; node = e.node; depth = above + e.offset; way = Some e.way } in
      let into : next.inst ≡ at.into = inst_from e.into (above + e.offset + back) rest next parts chain h.1 at.into at.leads in
      let adds = adds_is i above e (rest ++ []) part top at h.0 in (
        elim at.edge [
          | inl q ↦
              let x = as_node link (rest ++ []) part q.kind (ap Some q.way) h.0 in
              inl (record {
                node = q.node;
                offset = e.offset;
                is = point_is link part x q.node e.offset q.at q.closed;
                adds = adds;
                way = q.kind;
                back = q.back;
                enters = subst (λ (k : InstKey). Enters task q.node q.kind k q.back) (sym into) q.enters;
              })
          | inr q ↦
              let x = as_recur link (rest ++ []) part (ap Some q.way) h.0 in
              inr (record {
                root = x.inst;
                point = x.point
                    ∙ ap point.Recur (entry_from e.into (above + e.offset + back) rest [] chain at.into at.leads (into_other i e at) ∙ ap (λ (k : InstKey). k.entry) (sym into));
                depth = e.offset;
                cut = subst (λ (k : InstKey). cut_at task.assumptions k ≡ Some e.offset) (sym into) q.cut;
                adds = adds;
              })
        ],
        go_on_from e.into (above + e.offset + back) rest next parts (top_next i e (above + e.offset + back) at) chain h.1,
      )

module _ (task : Task) (nodes : List Node) (x : Explanation) (e : Explains task nodes x) where
  pub sums : sum_of x.parts ≡ x.least
  sums = sums_from task nodes e.reached e.deepest.graph e.deepest.needs e.deepest.family 0 0 e.links x.parts (λ inst is same. refl) e.deepest.chain e.parts ∙ sym e.deepest.root

  pub nests : (c : Claim) → IsFilled task c.nodes nodes → BeginsAtRoot task e.reached → Nest task c x.parts
  nests c filled root = by x.parts refl e.parts
    where
      never : (links : List Link) → IsChainFrom (back_of (device_of task.flash)) e.deepest.graph e.deepest.needs 0 0 links → AreParts task nodes e.reached links [] [] → ⊥
      never links (ends _ _ p first) h = h
      never links (goes _ _ d more none first c) h = h

      by : (parts : List Part) → x.parts ≡ parts → AreParts task nodes e.reached e.links [] parts → Nest task c x.parts
      by [] same h = absurd (never e.links e.deepest.chain h)
      by (part ∷ parts) same h =
          record {
            nodes = nodes;
            filled = filled;
            root = part;
            rest = parts;
            are = same;
            begins = inst_from task nodes e.reached e.deepest.graph e.deepest.needs e.deepest.family 0 0 e.links part parts e.deepest.chain h root_inst
                (root e.deepest.graph e.deepest.family);
            go_on = go_on_from task nodes e.reached e.deepest.graph e.deepest.needs e.deepest.family 0 0 e.links part parts (λ inst is top. refl) e.deepest.chain h;
          }

pub all_there : (task : Task) (reached : List Node) (need : ℕ) (links : List Link) → need ≤ SIZE → IsDeepest task reached need links → AreThere reached links
all_there task reached need links low d = there_from task reached reached d.graph d.needs d.family 0 0 links (omega (arith, low, d.root)) d.chain

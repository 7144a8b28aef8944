-- Closed nodes and edges of an instance, node by node.
use Rattle.std.proofs.Common.{arith, refl, sym, ap, subst, ◌∙◌, ◌≡◌, ℕ, ◌+◌, ◌≤◌, ◌⊎◌, inl, inr, List, [], ◌∷◌, ◌++◌, length, Option, Some, None, slice_get, Contains}
use Rattle.std.specs.List.{flat_map}
use Rattle.std.proofs.lemmas.Option.{slice_get_within}
use Rattle.avr_model.specs.declared.assumption.Entry.{Entry}
use Rattle.node_keys.specs.declared.keys.EdgeKind.{EdgeKind}
use Rattle.node_keys.specs.Keys.{root_inst, cut_at}
use Rattle.instance_graph.specs.declared.graph.GraphWay.{GraphWay}
use Rattle.instance_graph.specs.declared.graph.GraphWay.TheVariants.{Recur}
use Rattle.instance_graph.specs.declared.graph.GraphWay.TheVariants.{Enters as Enters_by}
use Rattle.std.specs.Prelude.{◌↔◌}
use Rattle.std.proofs.lemmas.List.Elements.{Contains-append_left, Contains-append_right, Contains-append_cases}
use Rattle.basics.specs.Items.{contained_at, none_in, contained_in_join, each_of_join, only_one_in as only}
use Rattle.basics.specs.Lists.{one_at}
use Rattle.basics.specs.Numbers.{before_or_last}
use Rattle.node_keys.specs.declared.keys.InstKey.{InstKey}
use Rattle.node_keys.specs.declared.keys.SpForm.{SpForm}
use Rattle.node_keys.specs.declared.keys.SpForm.TheVariants.{Closed, Open}
use Rattle.local_rules.specs.declared.local.Node.{Node}
use Rattle.edge_rules.specs.Edges.{Enters}
use Rattle.edge_rules.specs.Views.{IsSpan}
use Rattle.instance_graph.specs.declared.graph.Entered.{Entered}
use Rattle.instance_graph.specs.declared.graph.GraphInst.{GraphInst}
use Rattle.instance_graph.specs.declared.graph.ClosedNode.{ClosedNode}
use Rattle.family_graph.specs.declared.entering.Entering.{Entering}
use Rattle.family_graph.specs.Graphs.{AreWaysOf, IsPeopled}
use Rattle.family_graph.specs.Numbers.{number_in, AreInstNumbers, entry_of, unless_cut, entries_for, AddsAt, IsRecurTo, AreRecurs, AreRecursOf, IsNodeBetween, IsEntryBetween, IsInstOf}
use Rattle.family_graph.proofs.Lists.{itself}
use Rattle.family_graph.proofs.Insts.{number_is, number_there}
use Rattle.family_graph.proofs.Ways.{entered_inst}
use Rattle.local_rules.specs.Site.{Task}

open_closed : (o h : ℕ) (high : _) → Open o high ≡ Closed h → ⊥
open_closed o h high e = cc

closed_is : (a b : ℕ) → Closed a ≡ Closed b → a ≡ b
closed_is a b e = cc

node_is : (p : ClosedNode) (at offset : ℕ) → p.node ≡ at → p.offset ≡ offset → record { node = at; offset = offset } ≡ p
node_is p at offset a b =
    let mk : ℕ → ℕ → ClosedNode = λ x y. record { node = x; offset = y } in
    ap (λ (x : ℕ). mk x offset) (sym a) ∙ ap (mk p.node) (sym b)

entry_is : (e : Entered) (at offset into : ℕ) (way : GraphWay) → e.node ≡ at → e.offset ≡ offset → e.way ≡ way → e.into ≡ into → record { node = at; offset = offset; way = way; into = into } ≡ e
entry_is e at offset into way a b w c = sym (λ j. record { node = a j; offset = b j; way = w j; into = c j })

-- ---- the edges of one node

module _ (task : Task) (nodes : List Node) (insts : List InstKey) (numbers : List ℕ) (are : AreInstNumbers nodes (length nodes) insts numbers)
    (peopled : IsPeopled task nodes) (n : Node) (member : Contains nodes n) (at offset : ℕ) where
  -- an edge from the node, as one of the graph
  pub record IsEntryAt (e : Entered) : Type 0 where
    pub node : e.node ≡ at
    pub offset_is : e.offset ≡ offset
    pub into : InstKey
    pub leads : slice_get insts e.into ≡ Some into
    pub kind : EdgeKind
    pub way : e.way ≡ Enters_by kind
    pub back : ℕ
    pub enters : Enters task n kind into back
    pub whole : cut_at task.assumptions into ≡ None

  abbrev made : Entering → Entered
  made w = entry_of insts (record { node = at; offset = offset }) w

  abbrev made_by : Entering → List Entered
  made_by = entries_for task.assumptions insts (record { node = at; offset = offset })

  -- the edge for one entry
  made_is : (w : Entering) (back : ℕ) → Enters task n w.kind w.inst back → (cut : Option ℕ) → cut_at task.assumptions w.inst ≡ cut → (e : Entered) → Contains (unless_cut cut (made w)) e
      → IsEntryAt e
  made_is w back enters (Some depth) is e has = absurd (none_in e has)
  made_is w back enters None is e has =
      subst IsEntryAt (sym (only (made w) e has))
      record {
        node = refl;
        offset_is = refl;
        into = w.inst;
        leads = number_there nodes insts numbers w.inst are (entered_inst nodes w.inst (peopled n w.kind w.inst back member enters));
        kind = w.kind;
        way = refl;
        back = back;
        enters = enters;
        whole = is;
      }

  pub listed : (ways : List Entering) → AreWaysOf task n ways → (e : Entered) → Contains (flat_map made_by ways) e ↔ IsEntryAt e
  listed ways all e = (
    λ has. each_of_join made_by IsEntryAt ways (λ w x i j. let k = (all w).0 i in made_is w k.0 k.1 (cut_at task.assumptions w.inst) refl x j) e has,
    λ is.
        let w : Entering = record { kind = is.kind; inst = is.into } in
        let same : made w ≡ e = entry_is e at offset (number_in insts is.into) (Enters_by is.kind) is.node is.offset_is is.way (sym (number_is insts e.into is.into are.ascending is.leads)) in
        let here : Contains (unless_cut (cut_at task.assumptions is.into) (made w)) e =
        subst (λ (o : Option ℕ). Contains (unless_cut o (made w)) e) (sym is.whole) (subst (λ (x : Entered). Contains (x ∷ []) e) (sym same) (itself e)) in
        contained_in_join made_by ways w e ((all w).1 (is.back, is.enters)) here,
  )

-- ---- one node more

module _ (task : Task) (nodes : List Node) (insts : List InstKey) (low at : ℕ) (above : low ≤ at) (n : Node) (here : slice_get nodes at ≡ Some n) where
  wider_node : (p : ClosedNode) → IsNodeBetween nodes low at p → IsNodeBetween nodes low (at + 1) p
  wider_node p h = record { above = h.above; below = omega (arith, h.below); node = h.node; at = h.at; closed = h.closed }

  newer_node : (p : ClosedNode) → IsNodeBetween nodes low (at + 1) p → (IsNodeBetween nodes low at p) ⊎ ((p.node ≡ at) × (n.key.sp ≡ Closed p.offset))
  newer_node p h =
      elim (before_or_last p.node at h.below) [
        | inl less ↦ inl (record { above = h.above; below = less; node = h.node; at = h.at; closed = h.closed })
        | inr same ↦
            let k : h.node ≡ n = one_at nodes at h.node n (subst (λ (i : ℕ). slice_get nodes i ≡ Some h.node) same h.at) here in
            inr (same, subst (λ (m : Node). m.key.sp ≡ Closed p.offset) k h.closed)
      ]

  pub nodes_more : (ways : List Entering) → (sp : SpForm) → n.key.sp ≡ sp → (ps ps' : List ClosedNode) (es es' : List Entered) → AddsAt task.assumptions insts at ways sp ps es ps' es'
      → ((p : ClosedNode) → Contains ps p ↔ IsNodeBetween nodes low at p) → (p : ClosedNode) → Contains ps' p ↔ IsNodeBetween nodes low (at + 1) p
  nodes_more ways (Open o high) is ps ps' es es' adds inv p = (
    λ has. wider_node p ((inv p).0 (subst (λ (xs : List ClosedNode). Contains xs p) adds.0 has)),
    λ b. elim (newer_node p b) [
      | inl old ↦ subst (λ (xs : List ClosedNode). Contains xs p) (sym adds.0) ((inv p).1 old)
      | inr new ↦ absurd (open_closed o p.offset high (sym is ∙ new.1))
    ],
  )
  nodes_more ways (Closed o) is ps ps' es es' adds inv p = (
    λ has. elim (Contains-append_cases ps (record { node = at; offset = o } ∷ []) p (subst (λ (xs : List ClosedNode). Contains xs p) adds.0 has)) [
      | inl old ↦ wider_node p ((inv p).0 old)
      | inr this ↦ subst (IsNodeBetween nodes low (at + 1)) (sym (only (record { node = at; offset = o }) p this)) (record { above = above; below = omega arith; node = n; at = here; closed = is })
    ],
    λ b. subst (λ (xs : List ClosedNode). Contains xs p) (sym adds.0) (elim (newer_node p b) [
      | inl old ↦ Contains-append_left ps (record { node = at; offset = o } ∷ []) p ((inv p).1 old)
      | inr new ↦
          Contains-append_right ps (record { node = at; offset = o } ∷ []) p
          (subst (Contains (record { node = at; offset = o } ∷ [])) (node_is p at o new.0 (closed_is p.offset o (sym new.1 ∙ is))) (itself (record { node = at; offset = o })))
    ]),
  )

  wider_entry : (e : Entered) → IsEntryBetween task nodes insts low at e → IsEntryBetween task nodes insts low (at + 1) e
  wider_entry e h =
      record { above = h.above; below = omega (arith, h.below); node = h.node; at = h.at; closed = h.closed; into = h.into; leads = h.leads; kind = h.kind; way = h.way; back = h.back; enters = h.enters; whole = h.whole }

  module _ (numbers : List ℕ) (are : AreInstNumbers nodes (length nodes) insts numbers) (peopled : IsPeopled task nodes) where
    abbrev At : ℕ → Entered → Type 0
    At offset e = IsEntryAt task nodes insts numbers are peopled n (contained_at nodes at n here) at offset e

    newer_entry : (e : Entered) → IsEntryBetween task nodes insts low (at + 1) e → (IsEntryBetween task nodes insts low at e) ⊎ ((n.key.sp ≡ Closed e.offset) × At e.offset e)
    newer_entry e h =
        elim (before_or_last e.node at h.below) [
          | inl less ↦ inl (record { above = h.above; below = less; node = h.node; at = h.at; closed = h.closed; into = h.into; leads = h.leads; kind = h.kind; way = h.way; back = h.back; enters = h.enters; whole = h.whole })
          | inr same ↦
              let k : h.node ≡ n = one_at nodes at h.node n (subst (λ (i : ℕ). slice_get nodes i ≡ Some h.node) same h.at) here in
              inr (
                subst (λ (m : Node). m.key.sp ≡ Closed e.offset) k h.closed,
                record { node = same; offset_is = refl; into = h.into; leads = h.leads; kind = h.kind; way = h.way; back = h.back; enters = subst (λ (m : Node). Enters task m h.kind h.into h.back) k h.enters; whole = h.whole },
              )
        ]

    older_entry : (o : ℕ) → n.key.sp ≡ Closed o → (e : Entered) → At o e → IsEntryBetween task nodes insts low (at + 1) e
    older_entry o is e a =
        record {
          above = omega (arith, above, a.node);
          below = omega (arith, a.node);
          node = n;
          at = subst (λ (i : ℕ). slice_get nodes i ≡ Some n) (sym a.node) here;
          closed = is ∙ ap (λ (x : ℕ). Closed x) (sym a.offset_is);
          into = a.into;
          leads = a.leads;
          kind = a.kind;
          way = a.way;
          back = a.back;
          enters = a.enters;
          whole = a.whole;
        }

    pub entries_more : (ways : List Entering) → AreWaysOf task n ways → (sp : SpForm) → n.key.sp ≡ sp → (ps ps' : List ClosedNode) (es es' : List Entered) → AddsAt task.assumptions insts at ways sp ps es ps' es'
        → ((e : Entered) → Contains es e ↔ IsEntryBetween task nodes insts low at e) → (e : Entered) → Contains es' e ↔ IsEntryBetween task nodes insts low (at + 1) e
    entries_more ways all (Open o high) is ps ps' es es' adds inv e = (
      λ has. wider_entry e ((inv e).0 (subst (λ (xs : List Entered). Contains xs e) adds.1 has)),
      λ b. elim (newer_entry e b) [
        | inl old ↦ subst (λ (xs : List Entered). Contains xs e) (sym adds.1) ((inv e).1 old)
        | inr new ↦ absurd (open_closed o e.offset high (sym is ∙ new.0))
      ],
    )
    entries_more ways all (Closed o) is ps ps' es es' adds inv e =
        let l = listed task nodes insts numbers are peopled n (contained_at nodes at n here) at o ways all e in
        let new : List Entered = flat_map (entries_for task.assumptions insts (record { node = at; offset = o })) ways in (
          λ has. elim (Contains-append_cases es new e (subst (λ (xs : List Entered). Contains xs e) adds.1 has)) [
            | inl old ↦ wider_entry e ((inv e).0 old)
            | inr this ↦ older_entry o is e (l.0 this)
          ],
          λ b. subst (λ (xs : List Entered). Contains xs e) (sym adds.1) (elim (newer_entry e b) [
            | inl old ↦ Contains-append_left es new e ((inv e).1 old)
            | inr more ↦ Contains-append_right es new e (l.1 (subst (λ (x : ℕ). At x e) (closed_is e.offset o (sym more.0 ∙ is)) more.1))
          ]),
        )

-- ---- a whole instance

pub instance_is : (task : Task) (nodes : List Node) (insts : List InstKey) (inst : InstKey) (low high : ℕ) (g : GraphInst) (own : List Entered) → g.key ≡ inst → IsSpan nodes inst low high
    → ((p : ClosedNode) → Contains g.offsets p ↔ IsNodeBetween nodes low high p) → ((e : Entered) → Contains own e ↔ IsEntryBetween task nodes insts low high e)
    → AreRecursOf task.assumptions insts (length nodes) inst own g.entered → IsInstOf task nodes insts inst g
instance_is task nodes insts inst low high g own is span closed entries recurs =
    record {
      key = is;
      closed = λ p. (
        λ has. let b = (closed p).0 has in record { node = b.node; at = b.at; same = (span.exact p.node b.node b.at).1 (b.above, b.below); closed = b.closed },
        λ of. let b = (span.exact p.node of.node of.at).0 of.same in (closed p).1 (record { above = b.0; below = b.1; node = of.node; at = of.at; closed = of.closed }),
      );
      entered = λ e. (
        λ has. elim ((recurs e).0 has) [
          | inl old ↦
              let b = (entries e).0 old in
              record {
                into = b.into;
                leads = b.leads;
                edge = inl (record { node = b.node; at = b.at; same = (span.exact e.node b.node b.at).1 (b.above, b.below); closed = b.closed; kind = b.kind; way = b.way; back = b.back; enters = b.enters; whole = b.whole });
              }
          | inr new ↦ record { into = new.1.into; leads = new.1.leads; edge = inr (record { root = new.0; way = new.1.way; behind = new.1.node; cut = new.1.cut }) }
        ],
        λ of. (recurs e).1 (elim of.edge [
          | inl q ↦
              let b = (span.exact e.node q.node q.at).0 q.same in
              inl ((entries e).1
              (record {
                above = b.0;
                below = b.1;
                node = q.node;
                at = q.at;
                closed = q.closed;
                into = of.into;
                leads = of.leads;
                kind = q.kind;
                way = q.way;
                back = q.back;
                enters = q.enters;
                whole = q.whole;
              }))
          | inr q ↦ inr (q.root, record { way = q.way; node = q.behind; below = slice_get_within insts e.into of.into of.leads; into = of.into; leads = of.leads; cut = q.cut })
        ]),
      );
    }

-- what a closed node adds
pub adds_closed : (A : List Entry) (insts : List InstKey) (at : ℕ) (ways : List Entering) (sp : SpForm) (o : ℕ) (ps ps' : List ClosedNode) (es es' : List Entered)
    → sp ≡ Closed o → ps' ≡ ps ++ record { node = at; offset = o } ∷ [] → es' ≡ es ++ flat_map (entries_for A insts (record { node = at; offset = o })) ways
    → AddsAt A insts at ways sp ps es ps' es'
adds_closed A insts at ways sp o ps ps' es es' is closed entries = subst (λ (f : SpForm). AddsAt A insts at ways f ps es ps' es') (sym is) (closed, entries)

-- the instance with these lists
pub instance_made : (task : Task) (nodes : List Node) (insts : List InstKey) (key inst : InstKey) (low high at : ℕ) (closed ps : List ClosedNode) (entries all es : List Entered)
    → key ≡ inst → IsSpan nodes key low high → at ≡ high → ps ≡ closed → es ≡ all
    → ((p : ClosedNode) → Contains closed p ↔ IsNodeBetween nodes low at p) → ((e : Entered) → Contains entries e ↔ IsEntryBetween task nodes insts low at e)
    → AreRecursOf task.assumptions insts (length nodes) key entries all → IsInstOf task nodes insts inst (record { key = key; offsets = ps; entered = es })
instance_made task nodes insts key inst low high at closed ps entries all es same span end a b inv inv' recurs =
    subst (λ (k : InstKey). IsInstOf task nodes insts k (record { key = key; offsets = ps; entered = es })) same
    (instance_is task nodes insts key low high (record { key = key; offsets = ps; entered = es }) entries refl span
    (λ p. subst (λ (xs : List ClosedNode). Contains xs p ↔ IsNodeBetween nodes low high p) (sym a) (subst (λ (h : ℕ). Contains closed p ↔ IsNodeBetween nodes low h p) end (inv p)))
    (λ e. subst (λ (h : ℕ). Contains entries e ↔ IsEntryBetween task nodes insts low h e) end (inv' e))
    (subst (AreRecursOf task.assumptions insts (length nodes) key entries) (sym b) recurs))

-- ---- recur edges

module _ (A : List Entry) (insts : List InstKey) (behind : ℕ) where
  pub recurs_none : (old : List Entered) → AreRecurs A insts behind 0 old old
  recurs_none old e = (λ h. inl h, λ s. elim s [ inl h ↦ h | inr r ↦ absurd (omega (arith, r.below)) ])

  wider_recur : (at : ℕ) (e : Entered) → IsRecurTo A insts behind at e → IsRecurTo A insts behind (at + 1) e
  wider_recur at e r = record { way = r.way; node = r.node; below = omega (arith, r.below); into = r.into; leads = r.leads; cut = r.cut }

  -- an edge of one more instance is one of those before, or its own
  newer_recur : (at : ℕ) (inst : InstKey) → slice_get insts at ≡ Some inst → (e : Entered) → IsRecurTo A insts behind (at + 1) e
      → IsRecurTo A insts behind at e ⊎ ((e.into ≡ at) × (cut_at A inst ≡ Some e.offset))
  newer_recur at inst is e r = elim (before_or_last e.into at r.below) [
    | inl less ↦ inl (record { way = r.way; node = r.node; below = less; into = r.into; leads = r.leads; cut = r.cut })
    | inr same ↦
        let k : r.into ≡ inst = one_at insts at r.into inst (subst (λ (i : ℕ). slice_get insts i ≡ Some r.into) same r.leads) is in
        inr (same, subst (λ (x : InstKey). cut_at A x ≡ Some e.offset) k r.cut)
  ]

  pub recurs_past : (at : ℕ) (inst : InstKey) → slice_get insts at ≡ Some inst → cut_at A inst ≡ None → (old now : List Entered) → AreRecurs A insts behind at old now
      → AreRecurs A insts behind (at + 1) old now
  recurs_past at inst is whole old now are e = (
    λ h. elim ((are e).0 h) [ inl before ↦ inl before | inr r ↦ inr (wider_recur at e r) ],
    λ s. (are e).1 (elim s [
      | inl before ↦ inl before
      | inr r ↦ elim (newer_recur at inst is e r) [ inl earlier ↦ inr earlier | inr own ↦ absurd (let c = own.1 in cc) ]
    ]),
  )

  pub recurs_more : (at depth : ℕ) (inst : InstKey) → slice_get insts at ≡ Some inst → cut_at A inst ≡ Some depth → (old now : List Entered) → AreRecurs A insts behind at old now
      → AreRecurs A insts behind (at + 1) old (now ++ record { node = behind; offset = depth; way = Recur; into = at } ∷ [])
  recurs_more at depth inst is cut old now are e =
      let new : Entered = record { node = behind; offset = depth; way = Recur; into = at } in (
        λ h. elim (Contains-append_cases now (new ∷ []) e h) [
          | inl before ↦ elim ((are e).0 before) [ inl first ↦ inl first | inr r ↦ inr (wider_recur at e r) ]
          | inr this ↦ inr (subst (IsRecurTo A insts behind (at + 1)) (sym (only new e this)) (record { way = refl; node = refl; below = omega arith; into = inst; leads = is; cut = cut }))
        ],
        λ s. elim s [
          | inl first ↦ Contains-append_left now (new ∷ []) e ((are e).1 (inl first))
          | inr r ↦ elim (newer_recur at inst is e r) [
            | inl earlier ↦ Contains-append_left now (new ∷ []) e ((are e).1 (inr earlier))
            | inr own ↦
                let deep : e.offset ≡ depth = some_same e.offset depth (sym own.1 ∙ cut) in
                let same : new ≡ e = entry_is e behind depth at Recur r.node deep r.way own.0 in
                Contains-append_right now (new ∷ []) e (subst (λ (x : Entered). Contains (new ∷ []) x) same (itself new))
          ]
        ],
      )
    where
      some_same : (a b : ℕ) → Some a ≡ Some b → a ≡ b
      some_same a b e = cc

pub recurs_root : (A : List Entry) (insts : List InstKey) (behind count : ℕ) (inst : InstKey) (old new : List Entered) → inst ≡ root_inst → count ≡ length insts → AreRecurs A insts behind count old new
    → AreRecursOf A insts behind inst old new
recurs_root A insts behind count inst old new root all are e =
    let at = subst (λ (n : ℕ). Contains new e ↔ (Contains old e ⊎ IsRecurTo A insts behind n e)) all (are e) in (
      λ h. elim (at.0 h) [ inl first ↦ inl first | inr r ↦ inr (root, r) ],
      λ s. at.1 (elim s [ inl first ↦ inl first | inr r ↦ inr r.1 ]),
    )

pub recurs_other : (A : List Entry) (insts : List InstKey) (behind : ℕ) (inst : InstKey) (old : List Entered) → (inst ≡ root_inst → ⊥) → AreRecursOf A insts behind inst old old
recurs_other A insts behind inst old other e = (λ h. inl h, λ s. elim s [ inl h ↦ h | inr r ↦ absurd (other r.0) ])

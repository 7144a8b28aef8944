-- The code's list is exactly the edges of the family.
use Rattle.std.proofs.Common.{◌≡◌, ◌≢◌, refl, sym, ap, ◌∙◌, subst, ℕ, zero, suc, ◌+◌, ◌<◌, ◌≤◌, ◌==◌, ◌&&◌, ◌||◌, not, ⊎_elim, Bool, true, false, if◌then◌else◌, List, [], ◌∷◌, ◌++◌, map, Option, Some, None, Result, Ok, Err, Contains, arith}
use Rattle.std.specs.Prelude.{◌↔◌, IfOk, OnOk}
use Rattle.text_base.specs.Answers.{Answers}
use Rattle.local_rules.specs.declared.local.NodeFault.TheVariants.{Memory}
use Rattle.std.proofs.lemmas.List.Elements.{Contains-append_left, Contains-append_right, Contains-append_cases}
use Rattle.std.proofs.lemmas.Bool.Decides.{nat_tests, eqb_tells}
use Rattle.basics.specs.Items.{only_one_in, none_in, first_in, further_in, first_or_further, contained_in_join, each_of_join}
use Rattle.basics.specs.Booleans.{and_not}
use Rattle.edge_laws.proofs.AllLaws.{part_of as whole}
use Rattle.avr_model.specs.Vectors.{is_enabled, enable_count, watchdog}
use Rattle.avr_model.specs.declared.device.Device.{Device}
use Rattle.avr_model.specs.Devices.{device_of}
use Rattle.avr_model.proofs.AllLaws.{devices_are_alike}
use Rattle.abs_state.specs.declared.state.AbsState.{AbsState}
use Rattle.abs_state.specs.PairsBack.{returned}
use Rattle.node_keys.specs.declared.keys.NodeKey.{NodeKey}
use Rattle.node_keys.specs.declared.keys.InstKey.{InstKey}
use Rattle.node_keys.specs.declared.keys.EdgeKind.{EdgeKind}
use Rattle.node_keys.specs.declared.keys.EdgeKind.TheVariants as kind
use Rattle.node_keys.specs.declared.keys.SpForm.{SpForm}
use Rattle.node_keys.specs.declared.keys.SpForm.TheVariants.{Closed, Open}
use Rattle.node_keys.specs.Order.{same_inst}
use Rattle.node_keys.proofs.AllLaws.{keys_are_ordered}
use Rattle.local_rules.specs.declared.local.Node.{Node}
use Rattle.local_rules.specs.declared.local.Local.{Local}
use Rattle.local_rules.specs.declared.local.Exit.{Exit}
use Rattle.local_rules.specs.declared.local.NodeFault.{NodeFault}
use Rattle.local_rules.specs.Raw.{Raw}
use Rattle.local_rules.specs.Local.{local, settled, joined_onto}
use Rattle.local_laws.proofs.AllLaws.{in_map, each_in_map}
use Rattle.edge_rules.specs.Edges.{IsFaultless, raw_of, Enters, by_call, by_interrupt, returned_key, IsEdge, moving, entering, returning, AreEdges}
use Rattle.edge_rules.specs.declared.edge.Edge.{Edge}
use Rattle.family_edges.specs.declared.ways.Way.{Way}
use Rattle.family_edges.specs.Ways.{call_way, vector_way, may_enter, at_vector, vectors_below, interrupts_if, ways_by, ways_of}
use Rattle.family_edges.specs.Laws.{LocalPartsAreEdges}
use Rattle.family_edges.specs.Next.{local_edge, entry_edge, exit_in, Leaver, returned_as, edge_back, return_by, returns_in, all_returns, leaver_by, leaver_at, leaver_if, leavers_in, edges_with, next_by, next_of}
use Rattle.local_rules.specs.Site.{Task}

-- ---- the local part

ok_same : (x y : List Edge) (r : Result (List Edge) NodeFault) → r ≡ Ok x → r ≡ Ok y → x ≡ y
ok_same x y r e f = cc

settled_ok : (r : Raw) (fs : List NodeFault) (l : Local) → settled r fs ≡ Ok l → (fs ≡ []) × (l ≡ whole r)
settled_ok r [] l e = (refl, cc)
settled_ok r (f ∷ fs) l e = absurd cc

local_ok : (task : Task) (n : Node) (l : Local) → local task n.key n.state ≡ Ok l → IsFaultless task n × (l ≡ whole (raw_of task n))
unfolding local
local_ok task n l e = settled_ok (raw_of task n) (raw_of task n).faults l e

exit_by : (r : Raw) (x : Exit) (fs : List NodeFault) → exit_in (settled r fs) ≡ Some x → (fs ≡ []) × (r.exit ≡ Some x)
exit_by r x [] e = (refl, e)
exit_by r x (f ∷ fs) e = absurd cc

exit_from : (task : Task) (n : Node) (x : Exit) → exit_in (local task n.key n.state) ≡ Some x
    → IsFaultless task n × ((raw_of task n).exit ≡ Some x)
unfolding local
exit_from task n x e = exit_by (raw_of task n) x (raw_of task n).faults e

exit_there : (task : Task) (n : Node) (x : Exit) → IsFaultless task n → (raw_of task n).exit ≡ Some x
    → exit_in (local task n.key n.state) ≡ Some x
unfolding local
exit_there task n x f e = subst (λ fs. exit_in (settled (raw_of task n) fs) ≡ Some x) (sym f) e

-- ---- ways

enabled_bounds : (device : Device) (m v : ℕ) → is_enabled device m v ≡ true → (2 ≤ v) × (v < enable_count device + 2)
unfolding is_enabled
enabled_bounds device m v e = let some = devices_are_alike.some_vector device in (grind (arith, nat_tests), grind (arith, nat_tests))

parts_of : (i d : Bool) → (i && not d) ≡ true → (i ≡ true) × (d ≡ false)
parts_of true false e = (refl, refl)
parts_of true true e = absurd cc
parts_of false d e = absurd cc

at_vector_in : (task : Task) (k : NodeKey) (v : ℕ) (clears : Bool) → may_enter task k v ≡ true → (not clears || (v == watchdog (device_of task.flash))) ≡ true
    → Contains (at_vector task k v) (vector_way task.flash k v clears)
at_vector_in task k v false on c =
    let rest = (if v == watchdog (device_of task.flash) then vector_way task.flash k v true ∷ [] else []) in
    subst (λ b. Contains (if b then (vector_way task.flash k v false ∷ rest) else []) (vector_way task.flash k v false)) (sym on) (first_in (vector_way task.flash k v false) rest)
at_vector_in task k v true on c =
    subst (λ b. Contains (if b then (vector_way task.flash k v false ∷ (if v == watchdog (device_of task.flash) then vector_way task.flash k v true ∷ [] else [])) else []) (vector_way task.flash k v true)) (sym on)
    (subst (λ b. Contains (vector_way task.flash k v false ∷ (if b then vector_way task.flash k v true ∷ [] else [])) (vector_way task.flash k v true)) (sym c)
    (further_in (vector_way task.flash k v false) (vector_way task.flash k v true) (vector_way task.flash k v true ∷ []) (first_in (vector_way task.flash k v true) [])))

vectors_in : (task : Task) (k : NodeKey) (n v : ℕ) (clears : Bool) → 2 ≤ v → v < n + 2 → may_enter task k v ≡ true → (not clears || (v == watchdog (device_of task.flash))) ≡ true
    → Contains (vectors_below task k n) (vector_way task.flash k v clears)
unfolding vectors_below
vectors_in task k zero v clears low high on c = absurd (omega (arith, low, high))
vectors_in task k (suc n) v clears low high on c =
    ⊎_elim
    (λ e. Contains-append_right (vectors_below task k n) (at_vector task k (n + 2)) (vector_way task.flash k v clears)
    (subst (λ u. Contains (at_vector task k u) (vector_way task.flash k v clears)) e.1 (at_vector_in task k v clears on c)))
    (λ ne. Contains-append_left (vectors_below task k n) (at_vector task k (n + 2)) (vector_way task.flash k v clears)
    (vectors_in task k n v clears low (let d = ne.1 in omega (arith, high, d)) on c))
    (eqb_tells v (n + 2))

module _ (task : Task) (n : Node) (clean : IsFaultless task n) where
  -- the entry is one of the node's
  abbrev IsWay : Way → Type 0
  IsWay w = Enters task n w.kind w.inst w.back

  module _ (offset : ℕ) (sp : n.key.sp ≡ Closed offset) (i : n.key.i ≡ true) (delay : n.key.delay ≡ false) where
    at_by : (v : ℕ) (b c : Bool) → may_enter task n.key v ≡ b → (v == watchdog (device_of task.flash)) ≡ c → (w : Way)
        → Contains (if b then (vector_way task.flash n.key v false ∷ (if c then vector_way task.flash n.key v true ∷ [] else [])) else []) w → IsWay w
    at_by v false c on is w h = absurd (none_in w h)
    at_by v true false on is w h =
        let come = parts_of (is_enabled (device_of task.flash) n.key.masks v) _ on in
        subst IsWay (sym (only_one_in (vector_way task.flash n.key v false) w h)) (by_interrupt offset v false clean sp i delay come.0 come.1 refl)
    at_by v true true on is w h =
        let come = parts_of (is_enabled (device_of task.flash) n.key.masks v) _ on in
        ⊎_elim (λ e. subst IsWay (sym e) (by_interrupt offset v false clean sp i delay come.0 come.1 refl))
        (λ j. subst IsWay (sym (only_one_in (vector_way task.flash n.key v true) w j)) (by_interrupt offset v true clean sp i delay come.0 come.1 is))
        (first_or_further (vector_way task.flash n.key v false) w (vector_way task.flash n.key v true ∷ []) h)

    vectors_from : (m : ℕ) (w : Way) → Contains (vectors_below task n.key m) w → IsWay w
    unfolding vectors_below
    vectors_from zero w h = absurd (none_in w h)
    vectors_from (suc m) w h =
        ⊎_elim (λ j. vectors_from m w j) (λ j. at_by (m + 2) (may_enter task n.key (m + 2)) ((m + 2) == watchdog (device_of task.flash)) refl refl w j)
        (Contains-append_cases (vectors_below task n.key m) (at_vector task n.key (m + 2)) w h)

  interrupts_from : (offset : ℕ) → n.key.sp ≡ Closed offset → (i d : Bool) → n.key.i ≡ i → n.key.delay ≡ d → (w : Way)
      → Contains (interrupts_if (i && not d) task n.key) w → IsWay w
  interrupts_from offset sp false d ei ed w h = absurd (none_in w h)
  interrupts_from offset sp true true ei ed w h = absurd (none_in w h)
  interrupts_from offset sp true false ei ed w h = vectors_from offset sp ei ed (enable_count (device_of task.flash)) w h

  ways_from : (sp : SpForm) → n.key.sp ≡ sp → (w : Way) → Contains (ways_by sp task n.key (raw_of task n).calls) w → IsWay w
  ways_from (Closed offset) e w h =
      ⊎_elim (each_in_map (call_way n.key) IsWay (raw_of task n).calls (λ site j. by_call offset site clean e j) w)
      (interrupts_from offset e n.key.i n.key.delay refl refl w)
      (Contains-append_cases (map (call_way n.key) (raw_of task n).calls) (interrupts_if (n.key.i && not n.key.delay) task n.key) w h)
  ways_from (Open offset high) e w h = absurd (none_in w h)

way_in : (task : Task) (n : Node) (way : EdgeKind) (inst : InstKey) (back : ℕ) → Enters task n way inst back
    → Contains (ways_of task n.key (raw_of task n).calls) (record { kind = way; inst = inst; back = back })
way_in task n _ _ _ (by_call offset site clean sp has) =
    let calls = (raw_of task n).calls in
    subst (λ p. Contains (ways_by p task n.key calls) (call_way n.key site)) (sym sp)
    (Contains-append_left (map (call_way n.key) calls) (interrupts_if (n.key.i && not n.key.delay) task n.key) (call_way n.key site) (in_map (call_way n.key) calls site has))
way_in task n _ _ _ (by_interrupt offset v clears clean sp i delay on allowed c) =
    let calls = (raw_of task n).calls in
    let bounds = enabled_bounds (device_of task.flash) n.key.masks v on in
    let w = vector_way task.flash n.key v clears in
    subst (λ p. Contains (ways_by p task n.key calls) w) (sym sp)
    (Contains-append_right (map (call_way n.key) calls) (interrupts_if (n.key.i && not n.key.delay) task n.key) w
    (subst (λ b. Contains (interrupts_if b task n.key) w) (sym (and_not n.key.i n.key.delay i delay))
    (vectors_in task n.key (enable_count (device_of task.flash)) v clears bounds.0 bounds.1 (and_not (is_enabled (device_of task.flash) n.key.masks v) _ on allowed) c)))

-- ---- returns

-- the edge back from a node that leaves by this exit, with this state
abbrev pub back_edge : NodeKey → Way → Exit → AbsState → Edge
back_edge k w x after = record { kind = kind.Return; to = returned_key w.kind k w.back x; state = after }

pub each_returned : (n : Node) (w : Way) (l : Leaver) (P : Edge → Type 0) → ((after : AbsState) → returned n.state l.state ≡ Some after → P (back_edge n.key w l.exit after))
    → (e : Edge) → Contains (return_by n w l) e → P e
each_returned n w l P h e i = from (returned n.state l.state) refl i
  where
    from : (p : Option AbsState) → returned n.state l.state ≡ p → Contains (edge_back (returned_as n.key w l.exit p)) e → P e
    from None is j = absurd (none_in e j)
    from (Some after) is j = subst P (sym (only_one_in (back_edge n.key w l.exit after) e j)) (h after is)

pub returned_in : (n : Node) (w : Way) (l : Leaver) (after : AbsState) → returned n.state l.state ≡ Some after → Contains (return_by n w l) (back_edge n.key w l.exit after)
returned_in n w l after is =
    subst (λ p. Contains (edge_back (returned_as n.key w l.exit p)) (back_edge n.key w l.exit after)) (sym is) (first_in (back_edge n.key w l.exit after) [])

pub if_from : {X : Type 0} (b : Bool) (xs : List X) (x : X) → Contains (if b then xs else []) x → (b ≡ true) × Contains xs x
if_from true xs x h = (refl, h)
if_from false xs x h = absurd (none_in x h)

-- ---- the list

module _ (task : Task) (nodes : List Node) (n : Node) where
  abbrev Is : Edge → Type 0
  Is = IsEdge task nodes n

  -- a node of the family leaves the instance
  record Leaves (inst : InstKey) (l : Leaver) : Type 0 where
    by : Node
    present : Contains nodes by
    of : by.key.inst ≡ inst
    clean : IsFaultless task by
    exit : (raw_of task by).exit ≡ Some l.exit
    state : by.state ≡ l.state

  each_leaver : (inst : InstKey) (l : Leaver) → Contains (leavers_in task nodes inst) l → Leaves inst l
  each_leaver inst = each_of_join (leaver_if task inst) (Leaves inst) nodes (λ m l present i.
      let j = if_from (same_inst m.key.inst inst) (leaver_at task m) l i in
      by m present ((keys_are_ordered.same_insts m.key.inst inst).0 j.0) l (exit_in (local task m.key m.state)) refl j.1)
    where
      by : (m : Node) → Contains nodes m → m.key.inst ≡ inst → (l : Leaver) (o : Option Exit) → exit_in (local task m.key m.state) ≡ o → Contains (leaver_by m.state o) l → Leaves inst l
      by m present same l None is i = absurd (none_in l i)
      by m present same l (Some x) is i =
          let p = exit_from task m x is in
          subst (Leaves inst) (sym (only_one_in (record { exit = x; state = m.state }) l i))
          (record { by = m; present = present; of = same; clean = p.0; exit = p.1; state = refl })

  leaver_in : (m : Node) (x : Exit) → Contains nodes m → IsFaultless task m → (raw_of task m).exit ≡ Some x
      → Contains (leavers_in task nodes m.key.inst) (record { exit = x; state = m.state })
  leaver_in m x present clean exit =
      let l : Leaver = record { exit = x; state = m.state } in
      let this : Contains (leaver_at task m) l =
      subst (λ o. Contains (leaver_by m.state o) l) (sym (exit_there task m x clean exit)) (first_in l []) in
      contained_in_join (leaver_if task m.key.inst) nodes m l present
      (subst (λ b. Contains (if b then leaver_at task m else []) l) (sym ((keys_are_ordered.same_insts m.key.inst m.key.inst).1 refl)) this)

  return_from : (w : Way) → Enters task n w.kind w.inst w.back → (e : Edge) → Contains (returns_in (leavers_in task nodes) n w) e → Is e
  return_from w en = each_of_join (return_by n w) Is (leavers_in task nodes w.inst) (λ l e i.
      let m = each_leaver w.inst l i in
      each_returned n w l Is (λ after r. returning w.kind w.inst w.back m.by l.exit after en m.present m.of m.clean m.exit
      (subst (λ s. returned n.state s ≡ Some after) (sym m.state) r)) e)

  from_list : IsFaultless task n → (e : Edge)
      → Contains (edges_with task nodes n (ways_of task n.key (raw_of task n).calls) (whole (raw_of task n))) e → Is e
  from_list clean e h =
      let r = raw_of task n in
      let ws = ways_of task n.key r.calls in
      let way = ways_from task n clean n.key.sp refl in
      let first = map local_edge (joined_onto [] r.moves) in
      let second = map (entry_edge n.state) ws in
      let third = all_returns (leavers_in task nodes) n ws in
      ⊎_elim (each_in_map local_edge Is (joined_onto [] r.moves) (λ to j. moving to clean j) e)
      (λ i. ⊎_elim (each_in_map (entry_edge n.state) Is ws (λ w j. entering w.kind w.inst w.back (way w j)) e)
      (each_of_join (returns_in (leavers_in task nodes) n) Is ws (λ w y j. return_from w (way w j) y) e)
      (Contains-append_cases second third e i))
      (Contains-append_cases first (second ++ third) e h)

  to_list : (e : Edge) → Is e → Contains (edges_with task nodes n (ways_of task n.key (raw_of task n).calls) (whole (raw_of task n))) e
  to_list _ (moving to clean has) =
      let r = raw_of task n in
      let ws = ways_of task n.key r.calls in
      Contains-append_left (map local_edge (joined_onto [] r.moves)) (map (entry_edge n.state) ws ++ all_returns (leavers_in task nodes) n ws)
      (local_edge to) (in_map local_edge (joined_onto [] r.moves) to has)
  to_list _ (entering way inst back en) =
      let r = raw_of task n in
      let ws = ways_of task n.key r.calls in
      let w : Way = record { kind = way; inst = inst; back = back } in
      Contains-append_right (map local_edge (joined_onto [] r.moves)) (map (entry_edge n.state) ws ++ all_returns (leavers_in task nodes) n ws)
      (entry_edge n.state w)
      (Contains-append_left (map (entry_edge n.state) ws) (all_returns (leavers_in task nodes) n ws) (entry_edge n.state w)
      (in_map (entry_edge n.state) ws w (way_in task n way inst back en)))
  to_list _ (returning way inst back leaver x after en present same clean exit ret) =
      let r = raw_of task n in
      let ws = ways_of task n.key r.calls in
      let w : Way = record { kind = way; inst = inst; back = back } in
      let l : Leaver = record { exit = x; state = leaver.state } in
      let e = back_edge n.key w x after in
      let leaves : Contains (leavers_in task nodes inst) l = subst (λ i. Contains (leavers_in task nodes i) l) same (leaver_in leaver x present clean exit) in
      let found : Contains (returns_in (leavers_in task nodes) n w) e = contained_in_join (return_by n w) (leavers_in task nodes inst) l e leaves (returned_in n w l after ret) in
      Contains-append_right (map local_edge (joined_onto [] r.moves)) (map (entry_edge n.state) ws ++ all_returns (leavers_in task nodes) n ws) e
      (Contains-append_right (map (entry_edge n.state) ws) (all_returns (leavers_in task nodes) n ws) e
      (contained_in_join (returns_in (leavers_in task nodes) n) ws w e (way_in task n way inst back en) found))

  exact_by : (all : List Edge) (o : Result Local NodeFault) → local task n.key n.state ≡ o → next_by task nodes n o ≡ Ok all
      → AreEdges task nodes n all
  exact_by all (Err f) is e = absurd cc
  exact_by all (Ok l) is e =
      let q = local_ok task n l is in
      let list : edges_with task nodes n (ways_of task n.key (raw_of task n).calls) (whole (raw_of task n)) ≡ all =
      subst (λ m. edges_with task nodes n (ways_of task n.key m.calls) m ≡ all) q.1
      (ok_same (edges_with task nodes n (ways_of task n.key l.calls) l) all (next_by task nodes n (Ok l)) refl e) in
      subst (AreEdges task nodes n) list (λ x. (from_list q.0 x, to_list x))

-- ---- what an answer says

ok_is_no_err : (x : List Edge) (f : NodeFault) (r : Result (List Edge) NodeFault) → r ≡ Ok x → r ≡ Err f → ⊥
ok_is_no_err x f r a b = cc

module _ (task : Task) (nodes : List Node) (n : Node) where
  pub answer_edges : (r : Result (List Edge) NodeFault) → Answers (λ edges. edges) Memory r (next_of task nodes n)
      → IfOk r (λ edges. AreEdges task nodes n edges)
  answer_edges (Ok all) h = exact_by task nodes n all (local task n.key n.state) refl h
  answer_edges (Err f) h = tt

  fault_by : (f : NodeFault) (o : Result Local NodeFault) → next_by task nodes n o ≡ Err f → o ≡ Err f
  fault_by f (Ok l) e = absurd cc
  fault_by f (Err g) e = cc

  by_fault : (f : NodeFault) (o : Result Local NodeFault) → o ≡ Err f → next_by task nodes n o ≡ Err f
  by_fault f o e = ap (next_by task nodes n) e

  pub answer_fault : (r : Result (List Edge) NodeFault) → Answers (λ edges. edges) Memory r (next_of task nodes n)
      → (f : NodeFault) → r ≢ Err Memory → (r ≡ Err f) ↔ (local task n.key n.state ≡ Err f)
  answer_fault (Ok all) h f ne =
      (λ e. absurd (ok_is_no_err all f (Ok all) refl e), λ e. absurd (ok_is_no_err all f (next_of task nodes n) h (by_fault f (local task n.key n.state) e)))
  answer_fault (Err g) h f ne =
      let due = h (λ same. ne (ap (λ x. Err x) same)) in
      (λ e. fault_by f (local task n.key n.state) (due ∙ e), λ e. sym due ∙ by_fault f (local task n.key n.state) e)

  clean_by : (all : List Edge) (o : Result Local NodeFault) → local task n.key n.state ≡ o → next_by task nodes n o ≡ Ok all → IsFaultless task n
  clean_by all (Err f) is e = absurd cc
  clean_by all (Ok l) is e = (local_ok task n l is).0

  pub answer_clean : (r : Result (List Edge) NodeFault) → Answers (λ edges. edges) Memory r (next_of task nodes n)
      → OnOk r (IsFaultless task n)
  answer_clean (Ok all) h = clean_by all (local task n.key n.state) refl h
  answer_clean (Err f) h = tt

-- ---- the local part

module _ (task : Task) (n : Node) where
  part_of : IsFaultless task n → (l : Local) × (local task n.key n.state ≡ Ok l)
  unfolding local
  part_of f = (whole (raw_of task n), ap (settled (raw_of task n)) f)

  same_of : (l : Local) → local task n.key n.state ≡ Ok l → l.same ≡ joined_onto [] (raw_of task n).moves
  same_of l e = ap (λ (m : Local). m.same) (local_ok task n l e).1

  leave_of : (l : Local) → local task n.key n.state ≡ Ok l → l.exit ≡ (raw_of task n).exit
  leave_of l e = ap (λ (m : Local). m.exit) (local_ok task n l e).1

  way_of : (l : Local) (w : Way) → local task n.key n.state ≡ Ok l → Contains (ways_of task n.key l.calls) w ↔ Enters task n w.kind w.inst w.back
  way_of l w e =
      let p = local_ok task n l e in
      let calls : l.calls ≡ (raw_of task n).calls = ap (λ (m : Local). m.calls) p.1 in (
        λ h. ways_from task n p.0 n.key.sp refl w (subst (λ cs. Contains (ways_of task n.key cs) w) calls h),
        λ h. subst (λ cs. Contains (ways_of task n.key cs) w) (sym calls) (way_in task n w.kind w.inst w.back h),
      )

pub local_parts_are_edges : LocalPartsAreEdges
local_parts_are_edges = record {
  faultless = λ task n. (λ p. (local_ok task n p.0 p.1).0, part_of task n);
  same = λ task n l e. same_of task n l e;
  exit = λ task n l e. leave_of task n l e;
  ways = λ task n l w e. way_of task n l w e;
}

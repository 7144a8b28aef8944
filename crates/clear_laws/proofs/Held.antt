-- Along links a slot reaches exactly the nodes at which it may hold a live byte.
use Rattle.std.proofs.Common.{◌≡◌, refl, sym, ap, ◌∙◌, subst, ℕ, zero, suc, ◌<◌, List, [], ◌∷◌, length, Some, slice_get, Contains, arith}
use Rattle.std.specs.Prelude.{◌↔◌}
use Rattle.std.proofs.lemmas.Bool.{cases_lt}
use Rattle.std.proofs.lemmas.List.{get_or_past}
use Rattle.std.proofs.lemmas.Option.{none-some, same_Some, slice_get_within}
use Rattle.std.proofs.Common.{⊎_elim}
use Rattle.basics.specs.Items.{none_in}
use Rattle.basics.specs.Lists.{get_inside}
use Rattle.edge_rules.specs.Places.{found_at}
use Rattle.certificate.proofs.AllLaws.{number_of}
use Rattle.avr_model.specs.declared.device.Device.{Device}
use Rattle.node_keys.specs.declared.keys.NodeKey.{NodeKey}
use Rattle.node_keys.specs.Keys.{offset_of}
use Rattle.local_rules.specs.declared.local.Node.{Node}
use Rattle.edge_rules.specs.Views.{AreShown, index_of}
use Rattle.clear_laws.specs.Held.{MayHold, kept, pushed}
use Rattle.clear_laws.specs.Reach.{links_of, offset_at, SlotReaches, begins, along}
use Rattle.clear_laws.specs.declared.slots.SlotSeed.{SlotSeed}
use Rattle.clear_laws.specs.Links.{offsets_of, AreLinks}
use Rattle.clear_laws.specs.CertificateLaws.{SlotsSpreadAlongLinks}
use Rattle.clear_laws.proofs.Places.{contains_at, same_node_at, own_number}
use Rattle.local_rules.specs.Site.{Task}

offset_there : (nodes : List Node) (at : ℕ) (n : Node) → slice_get nodes at ≡ Some n → offset_at (offsets_of nodes) at ≡ offset_of n.key.sp
offset_there [] at n e = absurd (none-some n e)
offset_there (x ∷ nodes) zero n e = ap (λ (m : Node). offset_of m.key.sp) (same_Some x n e)
offset_there (x ∷ nodes) (suc at) n e = offset_there nodes at n e

module _ (task : Task) (nodes : List Node) (links : List (List ℕ)) (offsets : List ℕ) (seeds : List SlotSeed) (are : AreLinks task nodes links offsets seeds)
    {device : Device} (shown : AreShown device nodes) where
  abbrev Reaching : ℕ → ℕ → Type 0
  Reaching d k = SlotReaches links offsets seeds d k

  offset_is : (at : ℕ) (n : Node) → slice_get nodes at ≡ Some n → offset_at offsets at ≡ offset_of n.key.sp
  offset_is at n e = ap (λ (xs : List ℕ). offset_at xs at) are.offsets_are ∙ offset_there nodes at n e

  -- a link starts at the number of a node
  leads_inside : (k t : ℕ) → Contains (links_of links k) t → k < length nodes
  leads_inside k t h =
      ⊎_elim (λ lt. omega (arith, lt, are.count))
      (λ past. absurd (none_in t (subst (λ (xs : List ℕ). Contains xs t) (get_or_past links k [] past) h))) (cases_lt k (length links))

  reaches_holds : (d k : ℕ) → Reaching d k → (n : Node) → slice_get nodes k ≡ Some n → MayHold task nodes n.key d
  reaches_holds d _ (begins k h) n is =
      let s = (are.seed (record { node = k; slot = d })).0 h in
      let found = found_at s.edge.to nodes k s.lands.1.1 in
      let key : s.edge.to ≡ n.key = sym found.same ∙ ap (λ (m : Node). m.key) (same_node_at nodes k found.node n found.is is) in
      let at_edge = pushed s.node s.edge (contains_at nodes s.at s.node s.is) s.from s.lands.1.0 s.lands.0 in
      subst (λ (key : NodeKey). MayHold task nodes key d) key (subst (MayHold task nodes s.edge.to) (sym s.lands.1.2) at_edge)
  reaches_holds d _ (along k t from h lt) n is =
      let m = get_inside nodes k (leads_inside k t h) in
      let e = (are.link k m.0 t m.1).0 h in
      let found = found_at e.0.to nodes t e.1.1.1 in
      let key : e.0.to ≡ n.key = sym found.same ∙ ap (λ (x : Node). x.key) (same_node_at nodes t found.node n found.is is) in
      let below : d < offset_of e.0.to.sp = subst (λ (x : ℕ). d < x) (offset_is t n is ∙ ap (λ (key : NodeKey). offset_of key.sp) (sym key)) lt in
      subst (λ (key : NodeKey). MayHold task nodes key d) key
      (kept m.0 e.0 d (contains_at nodes k m.0 m.1) e.1.0 e.1.1.0 (reaches_holds d k from m.0 m.1) below)

  holds_reaches : (key : NodeKey) (d : ℕ) → MayHold task nodes key d → (t : ℕ) → index_of key nodes ≡ Some t → Reaching d t
  holds_reaches _ _ (kept n e d member edge stays held lt) t place =
      let j = number_of nodes n member in
      let found = found_at e.to nodes t place in
      let inside = slice_get_within nodes j.0 n j.1 in
      let offset : offset_at offsets t ≡ offset_of e.to.sp = offset_is t found.node found.is ∙ ap (λ (key : NodeKey). offset_of key.sp) found.same in
      along j.0 t (holds_reaches n.key d held j.0 (own_number nodes j.0 n shown j.1)) ((are.link j.0 n t j.1).1 (e, (edge, (stays, place))))
      (subst (λ (x : ℕ). d < x) (sym offset) lt)
  holds_reaches _ _ (pushed n e member edge local push) t place =
      let j = number_of nodes n member in
      begins t
      ((are.seed (record { node = t; slot = offset_of n.key.sp })).1
      record { at = j.0; node = n; edge = e; is = j.1; from = edge; lands = (push, (local, place, refl)) })

  pub held_there : (k d : ℕ) (n : Node) → slice_get nodes k ≡ Some n → Reaching d k ↔ MayHold task nodes n.key d
  held_there k d n is = (λ r. reaches_holds d k r n is, λ h. holds_reaches n.key d h k (own_number nodes k n shown is))

pub slots_spread_along_links : SlotsSpreadAlongLinks
slots_spread_along_links device task nodes links offsets seeds are shown at d n is = held_there task nodes links offsets seeds are shown at d n is

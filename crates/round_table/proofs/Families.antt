-- Families by their states at each key.
use Rattle.std.proofs.Common.{◌≡◌, ◌≢◌, ◌↔◌, sym, ap, ◌∙◌, subst, Bool, false, Some, None, length}
use Rattle.std.specs.Prelude.{IsTrue}
use Rattle.std.specs.FinMap.{get, insert}
use Rattle.std.proofs.lemmas.Option.{same_Some}
use Rattle.abs_state.specs.declared.state.AbsState.{AbsState}
use Rattle.abs_state.specs.Order.{IsStateWithin}
use Rattle.node_keys.specs.declared.keys.NodeKey.{NodeKey}
use Rattle.node_keys.specs.Keys.{offset_of}
use Rattle.round_laws.proofs.AllLaws.{at_keys, get_same, get_other, insert_again}
use Rattle.local_rules.specs.declared.local.Node.{Node}
use Rattle.round_table.specs.Families.{Family, Lands}
use Rattle.round_table.specs.Sized.{AreStatesSized}

-- ---- where a node lands

pub lands_if : (f : Family) (n : Node) (s : AbsState) → get f n.key ≡ Some s → (b : Bool) → IsTrue b ↔ IsStateWithin n.state s → IsTrue b ↔ Lands f n
lands_if f n s is b within = (
  λ t. record { at = s; is = is; above = within.0 t },
  λ l. within.1 (subst (IsStateWithin n.state) (same_Some l.at s (sym l.is ∙ is)) l.above),
)

pub lands_never : (f : Family) (n : Node) → get f n.key ≡ None → IsTrue false ↔ Lands f n
lands_never f n none = (λ t. absurd (cc), λ l. absurd (let never = sym none ∙ l.is in cc))

-- ---- one more

pub insert_sized : (f : Family) (k : NodeKey) (v : AbsState) → AreStatesSized f → length v.slots ≡ offset_of k.sp → AreStatesSized (insert f k v)
insert_sized f k v sized count q s =
    at_keys (λ q. get (insert f k v) q ≡ Some s → length s.slots ≡ offset_of q.sp) k q
    (λ is. subst (λ (x : AbsState). length x.slots ≡ offset_of k.sp) (same_Some v s (sym (get_same f k v) ∙ is)) count)
    (λ ne is. sized q s (sym (get_other f k v q ne) ∙ is))

-- another state gives another family
pub grew_if : (f : Family) (k : NodeKey) (s v : AbsState) → get f k ≡ Some s → (v ≢ s) ↔ (insert f k v ≢ f)
grew_if f k s v is = (
  (λ ne e. ne (same_Some v s (sym (get_same f k v) ∙ ap (λ g. get g k) e ∙ is))),
  (λ ne e. ne (ap (insert f k) e ∙ insert_again f k s is)),
)

pub new_grew : (f : Family) (k : NodeKey) (v : AbsState) → get f k ≡ None → insert f k v ≢ f
new_grew f k v none e = let never : Some v ≡ None = sym (get_same f k v) ∙ ap (λ g. get g k) e ∙ none in absurd (cc)

-- for a family that is known to be this one
pub grew_by : (f g : Family) (k : NodeKey) (s v : AbsState) (b : Bool) → get f k ≡ Some s → g ≡ insert f k v → (IsTrue b ↔ (v ≢ s)) → IsTrue b ↔ (g ≢ f)
grew_by f g k s v b is new grew = (
  (λ t e. (grew_if f k s v is).0 (grew.0 t) (sym new ∙ e)),
  (λ ne. grew.1 ((grew_if f k s v is).1 (λ e. ne (new ∙ e)))),
)

-- A table with shared states, with one node raised.
use Rattle.std.proofs.Common.{◌≡◌, ◌≢◌, ◌↔◌, refl, sym, ap, ◌∙◌, subst, ℕ, Bool, false, cond, Option, Some, None, List, length}
use Rattle.std.specs.Prelude.{IsTrue, IsSome}
use Rattle.std.specs.List.{IsDistinct}
use Rattle.std.specs.Map.{lookup, keys_of, set_value}
use Rattle.std.specs.Option.{option_map}
use Rattle.std.specs.FinMap.{get, insert, from_entries}
use Rattle.indexmap.specs.IndexMap.{insert_entry}
use Rattle.abs_state.specs.declared.state.AbsState.{AbsState}
use Rattle.abs_state.specs.Order.{state_join}
use Rattle.local_rules.specs.declared.local.Node.{Node}
use Rattle.node_keys.specs.declared.keys.NodeKey.{NodeKey}
use Rattle.node_keys.specs.Keys.{offset_of}
use Rattle.node_keys.specs.Order.{node_cmp, same_node}
use Rattle.state_pool.specs.Uses.{Uses, IsStateHeld}
use Rattle.state_pool.specs.Counts.{state_at, IsUsedMore}
use Rattle.round_table.specs.Families.{Family, raised}
use Rattle.round_table.specs.Sized.{AreStatesSized}
use Rattle.round_table.specs.Shared.{stated, AreCounted, IsShared, IsMoved}
use Rattle.round_table.proofs.Entries.{table_get, raised_there, raised_new}
use Rattle.round_table.proofs.Families.{insert_sized}
use Rattle.round_table.proofs.Shared.{lookup_stated, up_stated, counts_there, counts_new, stays_or_not, not_moved}

abbrev Numbered : Type 0
Numbered = List (NodeKey × ℕ)

-- the table with this state at the node's key, which had the other before
pub record IsRaised (f : Family) (node : Node) (before : Option AbsState) (s : AbsState) (pool : Uses) (es : Numbered) : Type 0 where
  pub shared : IsShared pool es
  pub here : get f node.key ≡ before
  pub put : from_entries {R = node_cmp} (stated pool es) ≡ insert f node.key s
  pub raised : from_entries {R = node_cmp} (stated pool es) ≡ raised f node

pub number_state : (pool : Uses) (es : Numbered) (k : NodeKey) (n : ℕ) → Some n ≡ lookup (same_node k) es → Some (state_at pool n) ≡ lookup (same_node k) (stated pool es)
number_state pool es k n found = ap (option_map (state_at pool)) found ∙ sym (lookup_stated pool es k)

pub number_long : (pool : Uses) (es : Numbered) (k : NodeKey) (n : ℕ) → IsShared pool es → Some n ≡ lookup (same_node k) es → length (state_at pool n).slots ≡ offset_of k.sp
number_long pool es k n shared found = shared.sized k (state_at pool n) (table_get (stated pool es) k ∙ sym (number_state pool es k n found))

pub shared_there : (pool new : Uses) (es new_es : Numbered) (f : Family) (node : Node) (n m : ℕ) → from_entries {R = node_cmp} (stated pool es) ≡ f → IsShared pool es
    → Some n ≡ lookup (same_node node.key) es → IsMoved pool n (state_join (state_at pool n) node.state) m new → length (state_at new m).slots ≡ length node.state.slots
    → length node.state.slots ≡ offset_of node.key.sp → new_es ≡ set_value (same_node node.key) es m
    → ((q : NodeKey) → lookup (same_node q) new_es ≡ cond (same_node node.key q) (Some m) (lookup (same_node q) es)) → IsDistinct same_node (keys_of new_es)
    → IsRaised f node (Some (state_at pool n)) (state_join (state_at pool n) node.state) new new_es
shared_there pool new es new_es f node n m is shared found moved long count entries up distinct =
    let s = state_at pool n in
    let w = state_join s node.state in
    let counted : AreCounted new new_es = subst (AreCounted new) (sym entries) (counts_there pool new es node.key n m w moved shared.counted (sym found)) in
    let states = up_stated pool new es new_es node.key m w moved.own moved.kept shared.counted counted up in
    let all = raised_there (stated pool es) (stated new new_es) f node s w is (number_state pool es node.key n found) refl states in
    record {
      shared = record {
        sized = subst AreStatesSized (sym all.1.0)
            (insert_sized f node.key w (subst AreStatesSized is shared.sized) (sym (ap (λ (x : AbsState). length x.slots) moved.own) ∙ long ∙ count));
        distinct = distinct;
        counted = counted;
      };
      here = all.0;
      put = all.1.0;
      raised = all.1.1;
    }

pub shared_new : (pool new : Uses) (es new_es : Numbered) (f : Family) (node : Node) (m : ℕ) → from_entries {R = node_cmp} (stated pool es) ≡ f → IsShared pool es
    → None ≡ lookup (same_node node.key) es → IsUsedMore pool node.state m new
    → length node.state.slots ≡ offset_of node.key.sp → new_es ≡ insert_entry same_node es node.key m
    → ((q : NodeKey) → lookup (same_node q) new_es ≡ cond (same_node node.key q) (Some m) (lookup (same_node q) es)) → IsDistinct same_node (keys_of new_es)
    → IsRaised f node None node.state new new_es
shared_new pool new es new_es f node m is shared found more count entries up distinct =
    let counted : AreCounted new new_es = subst (AreCounted new) (sym entries) (counts_new pool new es node.key m node.state more shared.counted (sym found)) in
    let states = up_stated pool new es new_es node.key m node.state more.own (λ x a b. more.kept x a) shared.counted counted up in
    let absent : None ≡ lookup (same_node node.key) (stated pool es) = ap (option_map (state_at pool)) found ∙ sym (lookup_stated pool es node.key) in
    let all = raised_new (stated pool es) (stated new new_es) f node is absent states in
    record {
      shared = record {
        sized = subst AreStatesSized (sym all.1.0) (insert_sized f node.key node.state (subst AreStatesSized is shared.sized) count);
        distinct = distinct;
        counted = counted;
      };
      here = all.0;
      put = all.1.0;
      raised = all.1.1;
    }

-- ---- what a join says of the pool's state, of which it was made

pub grew_so : (a s t w other : AbsState) (b : Bool) → a ≡ s → t ≡ s → w ≡ state_join t other → (IsTrue b ↔ (w ≢ t)) → IsTrue b ↔ (state_join a other ≢ a)
grew_so a s t w other b held copied joined grew =
    let same : t ≡ a = copied ∙ sym held in
    subst (λ (x : AbsState). IsTrue b ↔ (state_join x other ≢ x)) same (subst (λ (y : AbsState). IsTrue b ↔ (y ≢ t)) joined grew)

pub not_grown : (pool : Uses) (n : ℕ) (s t w other : AbsState) (b : Bool) → state_at pool n ≡ s → t ≡ s → w ≡ state_join t other → (IsTrue b ↔ (w ≢ t)) → b ≡ false
    → IsMoved pool n (state_join (state_at pool n) other) n pool
not_grown pool n s t w other b held copied joined grew stays =
    let so = grew_so (state_at pool n) s t w other b held copied joined grew in
    not_moved pool n (state_join (state_at pool n) other)
    (sym (stays_or_not (state_join (state_at pool n) other) (state_at pool n) (λ ne. let t = so.1 ne in absurd (cc))))

-- the joined state, as the pool's
pub joined_so : (a s t w other : AbsState) → a ≡ s → t ≡ s → w ≡ state_join t other → w ≡ state_join a other
joined_so a s t w other held copied joined = joined ∙ ap (λ (x : AbsState). state_join x other) (copied ∙ sym held)

pub is_there : (pool : Uses) (n : ℕ) (s : AbsState) (count : ℕ) → IsStateHeld pool n s count → IsSome (get pool n)
is_there pool n s count held = subst IsSome (sym held) refl

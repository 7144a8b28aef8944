-- The entries by one more vector.
use Rattle.std.proofs.Common.{refl, ◌≡◌, sym, ap, ◌∙◌, ℕ, ◌+◌, ◌-◌, ◌==◌, ◌&&◌, ◌||◌, Bool, true, false, not, if◌then◌else◌, List, [], ◌∷◌, ◌++◌, append_assoc, add-one}
use Rattle.std.specs.Int.{bit_at, from_bool}
use Rattle.std.proofs.lemmas.List.{append-nil}
use Rattle.avr_model.specs.Assumptions.{is_never}
use Rattle.avr_model.specs.Devices.{device_of}
use Rattle.avr_model.specs.Vectors.{is_vector, is_open_vector, has_enable_place, is_enabled, vector_word, watchdog}
use Rattle.node_keys.specs.declared.keys.NodeKey.{NodeKey}
use Rattle.family_edges.specs.declared.ways.Way.{Way}
use Rattle.family_edges.specs.Ways.{at_vector, vector_way, vectors_below}
use Rattle.local_rules.specs.Site.{Task}

pub no_vectors : (task : Task) (k : NodeKey) (start : List Way) → start ≡ start ++ vectors_below task k 0
unfolding vectors_below
no_vectors task k start = sym (append-nil start)

pub one_vector_more : (task : Task) (k : NodeKey) (n : ℕ) (start before now : List Way) → before ≡ start ++ vectors_below task k n → now ≡ before ++ at_vector task k (n + 2) → now ≡ start ++ vectors_below task k (n + 1)
unfolding vectors_below
one_vector_more task k n start before now so e =
    let whole : now ≡ start ++ (vectors_below task k n ++ at_vector task k (n + 2)) =
    e ∙ ap (λ ws. ws ++ at_vector task k (n + 2)) so ∙ append_assoc start (vectors_below task k n) (at_vector task k (n + 2)) in
    rw add-one whole

is_off : (vector place : Bool) → (vector && (false || (place && false))) ≡ false
is_off true true = refl
is_off true false = refl
is_off false place = refl

-- a vector whose enable bit is 0 isn't entered, unless it counts as always enabled
pub none_at : (task : Task) (k : NodeKey) (v : ℕ) (on always : Bool) (ways : List Way) → from_bool on ≡ bit_at k.masks (v - 2) → on ≡ false → always ≡ is_open_vector (device_of task.flash) v → always ≡ false
    → ways ≡ ways ++ at_vector task k v
unfolding is_enabled
none_at task k v on always ways bit off is shut =
    let d = device_of task.flash in
    let zero : bit_at k.masks (v - 2) ≡ 0 = sym bit ∙ ap from_bool off in
    let one : (bit_at k.masks (v - 2) == 1) ≡ false = ap (λ (n : ℕ). n == 1) zero in
    let disabled : is_enabled d k.masks v ≡ false =
    (λ i. is_vector d v && ((sym is ∙ shut) i || (has_enable_place d v && one i))) ∙ is_off (is_vector d v) (has_enable_place d v) in
    let none : at_vector task k v ≡ [] =
    ap (λ (may : Bool). if may && not (is_never task.assumptions (vector_word d v)) then (vector_way task.flash k v false ∷ (if v == watchdog d then vector_way task.flash k v true ∷ [] else [])) else []) disabled in
    sym (append-nil ways) ∙ ap (λ (more : List Way). ways ++ more) (sym none)

-- The text of a report's JSON, part by part.
use Rattle.std.proofs.Common.{ℕ, ◌+◌, ◌<◌, ◌≡◌, List, [], ◌∷◌, ◌++◌, length, take, map, get_or, refl, ap, sym, ◌∙◌, false, true, append_assoc, codes, decimal, Option}
use Rattle.serde_json.proofs.OnLiterals.{serde_json_on_literals}
use Rattle.serde_json.specs.View.{items_of}
use Rattle.serde_json.specs.Written.{compact_text, items_text}
use Rattle.avr_model.specs.declared.device.Device.{Device}
use Rattle.flash_image.specs.Naming.{Named}
use Rattle.certificate.specs.declared.instance.Inst.{Inst}
use Rattle.certificate.specs.Claims.{Claim}
use Rattle.reports.specs.Json.{count, inst_data, others_text, insts_text, fits_data, room_data, static_data, witness_data, json_text}
use Rattle.reports.proofs.Lines.{texts_next}

-- ---- instances

-- one more instance after others
pub more_insts : (names : List Named) (xs : List Inst) (i : ℕ) (x : Inst) (start before after : List ℕ) → i < length xs → x ≡ get_or xs i x
    → before ≡ start ++ others_text names (take i xs) → after ≡ before ++ (44 ∷ compact_text (inst_data names x)) → after ≡ start ++ others_text names (take (i + 1) xs)
more_insts names xs i x start before after lt is e f =
    f
    ∙ ap (λ (y : Inst). before ++ (44 ∷ compact_text (inst_data names y))) is
    ∙ ap (λ (t : List ℕ). t ++ (44 ∷ compact_text (inst_data names (get_or xs i x)))) e
    ∙ append_assoc start (others_text names (take i xs)) (44 ∷ compact_text (inst_data names (get_or xs i x)))
    ∙ ap (λ (t : List ℕ). start ++ t) (sym (texts_next (λ (y : Inst). 44 ∷ compact_text (inst_data names y)) xs i x lt))

behind : (names : List Named) (xs : List Inst) → items_text true (items_of (map (inst_data names) xs)) ≡ others_text names xs ++ 93 ∷ []
behind names [] = refl
behind names (x ∷ xs) =
    ap (λ (t : List ℕ). 44 ∷ (compact_text (inst_data names x) ++ t)) (behind names xs)
    ∙ ap (λ (t : List ℕ). 44 ∷ t) (sym (append_assoc (compact_text (inst_data names x)) (others_text names xs) (93 ∷ [])))

-- the items of the list of instances, and the bracket at its end
pub list_of_insts : (names : List Named) (xs : List Inst) → items_text false (items_of (map (inst_data names) xs)) ≡ insts_text names xs ++ 93 ∷ []
list_of_insts names [] = refl
list_of_insts names (x ∷ xs) =
    ap (λ (t : List ℕ). compact_text (inst_data names x) ++ t) (behind names xs)
    ∙ sym (append_assoc (compact_text (inst_data names x)) (others_text names xs) (93 ∷ []))

-- ---- the whole

past : (a m n end : List ℕ) → m ++ end ≡ n → (a ++ m) ++ end ≡ a ++ n
past a m n end e = append_assoc a m end ∙ ap (λ (t : List ℕ). a ++ t) e

grow : (a b u v t : List ℕ) → b ≡ a ++ u → t ≡ b ++ v → t ≡ a ++ (u ++ v)
grow a b u v t e f = f ∙ ap (λ (x : List ℕ). x ++ v) e ∙ append_assoc a u v

-- the members from each on: in the object, and as written with the line's end
abbrev object_5 : List ℕ → List ℕ
object_5 x = codes ",\"witness\":" ++ (x ++ 125 ∷ [])

abbrev line_5 : List ℕ → List ℕ
line_5 x = codes ",\"witness\":" ++ (x ++ 125 ∷ 10 ∷ [])

abbrev object_4 : List ℕ → List ℕ → List ℕ
object_4 s x = codes ",\"static\":" ++ (s ++ object_5 x)

abbrev line_4 : List ℕ → List ℕ → List ℕ
line_4 s x = codes ",\"static\":" ++ (s ++ line_5 x)

abbrev object_3 : List ℕ → List ℕ → List ℕ → List ℕ
object_3 r s x = codes ",\"room\":" ++ (r ++ object_4 s x)

abbrev line_3 : List ℕ → List ℕ → List ℕ → List ℕ
line_3 r s x = codes ",\"room\":" ++ (r ++ line_4 s x)

abbrev object_2 : List ℕ → List ℕ → List ℕ → List ℕ → List ℕ
object_2 items r s x = codes ",\"instances\":[" ++ (items ++ object_3 r s x)

abbrev line_2 : List ℕ → List ℕ → List ℕ → List ℕ → List ℕ
line_2 i r s x = codes ",\"instances\":[" ++ (i ++ (93 ∷ line_3 r s x))

abbrev object_1 : List ℕ → List ℕ → List ℕ → List ℕ → List ℕ → List ℕ
object_1 f items r s x = codes ",\"fits\":" ++ (f ++ object_2 items r s x)

abbrev line_1 : List ℕ → List ℕ → List ℕ → List ℕ → List ℕ → List ℕ
line_1 f i r s x = codes ",\"fits\":" ++ (f ++ line_2 i r s x)

abbrev object_0 : List ℕ → List ℕ → List ℕ → List ℕ → List ℕ → List ℕ → List ℕ
object_0 b f items r s x = codes "{\"bound\":" ++ (b ++ object_1 f items r s x)

abbrev line_0 : List ℕ → List ℕ → List ℕ → List ℕ → List ℕ → List ℕ → List ℕ
line_0 b f i r s x = codes "{\"bound\":" ++ (b ++ line_1 f i r s x)

ends_5 : (x : List ℕ) → object_5 x ++ 10 ∷ [] ≡ line_5 x
ends_5 x = ap (λ (t : List ℕ). codes ",\"witness\":" ++ t) (append_assoc x (125 ∷ []) (10 ∷ []))

ends_4 : (s x : List ℕ) → object_4 s x ++ 10 ∷ [] ≡ line_4 s x
ends_4 s x = ap (λ (t : List ℕ). codes ",\"static\":" ++ t) (past s (object_5 x) (line_5 x) (10 ∷ []) (ends_5 x))

ends_3 : (r s x : List ℕ) → object_3 r s x ++ 10 ∷ [] ≡ line_3 r s x
ends_3 r s x = ap (λ (t : List ℕ). codes ",\"room\":" ++ t) (past r (object_4 s x) (line_4 s x) (10 ∷ []) (ends_4 s x))

ends_2 : (i r s x : List ℕ) → object_2 (i ++ 93 ∷ []) r s x ++ 10 ∷ [] ≡ line_2 i r s x
ends_2 i r s x =
    ap (λ (t : List ℕ). codes ",\"instances\":[" ++ t)
    (past (i ++ 93 ∷ []) (object_3 r s x) (line_3 r s x) (10 ∷ []) (ends_3 r s x) ∙ append_assoc i (93 ∷ []) (line_3 r s x))

ends_1 : (f i r s x : List ℕ) → object_1 f (i ++ 93 ∷ []) r s x ++ 10 ∷ [] ≡ line_1 f i r s x
ends_1 f i r s x = ap (λ (t : List ℕ). codes ",\"fits\":" ++ t) (past f (object_2 (i ++ 93 ∷ []) r s x) (line_2 i r s x) (10 ∷ []) (ends_2 i r s x))

ends_0 : (b f i r s x : List ℕ) → object_0 b f (i ++ 93 ∷ []) r s x ++ 10 ∷ [] ≡ line_0 b f i r s x
ends_0 b f i r s x = ap (λ (t : List ℕ). codes "{\"bound\":" ++ t) (past b (object_1 f (i ++ 93 ∷ []) r s x) (line_1 f i r s x) (10 ∷ []) (ends_1 f i r s x))

abbrev line_of : Device → Claim → List Named → Option ℕ → List ℕ
line_of device c names e =
    line_0 (decimal c.bound) (compact_text (fits_data device c.bound e)) (insts_text names c.instances) (compact_text (room_data device e)) (compact_text (static_data e))
    (compact_text (witness_data c.witness))

is_line : (device : Device) (c : Claim) (names : List Named) (e : Option ℕ) → json_text device c names e ≡ line_of device c names e
unfolding serde_json_on_literals
is_line device c names e =
    let b = decimal c.bound in
    let f = compact_text (fits_data device c.bound e) in
    let r = compact_text (room_data device e) in
    let s = compact_text (static_data e) in
    let x = compact_text (witness_data c.witness) in
    ap (λ (items : List ℕ). object_0 b f items r s x ++ 10 ∷ []) (list_of_insts names c.instances) ∙ ends_0 b f (insts_text names c.instances) r s x

-- the parts as written form the line
pub written : (device : Device) (c : Claim) (names : List Named) (e : Option ℕ) (start o p q t u v w all : List ℕ) → o ≡ start ++ (codes "{\"bound\":" ++ compact_text (count c.bound))
    → p ≡ o ++ (codes ",\"fits\":" ++ compact_text (fits_data device c.bound e)) → q ≡ p ++ codes ",\"instances\":[" → t ≡ q ++ insts_text names c.instances
    → u ≡ t ++ (codes "],\"room\":" ++ compact_text (room_data device e)) → v ≡ u ++ (codes ",\"static\":" ++ compact_text (static_data e))
    → w ≡ v ++ (codes ",\"witness\":" ++ compact_text (witness_data c.witness)) → all ≡ w ++ 125 ∷ 10 ∷ [] → all ≡ start ++ json_text device c names e
written device c names e start o p q t u v w all bound fits begins insts room static witness ends =
    let b = codes "{\"bound\":" ++ decimal c.bound in
    let f = codes ",\"fits\":" ++ compact_text (fits_data device c.bound e) in
    let h = codes ",\"instances\":[" in
    let i = insts_text names c.instances in
    let r = codes "],\"room\":" ++ compact_text (room_data device e) in
    let s = codes ",\"static\":" ++ compact_text (static_data e) in
    let x = codes ",\"witness\":" ++ compact_text (witness_data c.witness) in
    let z = 125 ∷ 10 ∷ [] in
    let from_v = grow v w x z all witness ends in
    let from_u = grow u v s (x ++ z) all static from_v in
    let from_t = grow t u r (s ++ (x ++ z)) all room from_u in
    let from_q = grow q t i (r ++ (s ++ (x ++ z))) all insts from_t in
    let from_p = grow p q h (i ++ (r ++ (s ++ (x ++ z)))) all begins from_q in
    let from_o = grow o p f (h ++ (i ++ (r ++ (s ++ (x ++ z))))) all fits from_p in
    let from_start = grow start o b (f ++ (h ++ (i ++ (r ++ (s ++ (x ++ z)))))) all bound from_o in
    from_start ∙ ap (λ (a : List ℕ). start ++ a) (sym (is_line device c names e))

-- Reading and spelling of the lines of instances and nodes are inverse.
use Rattle.std.proofs.Common.{Bool, ℕ, ◌<◌, ◌≤◌, ◌≡◌, List, [], ◌∷◌, ◌++◌, codes, refl, ap, ◌∙◌, arith, Some, None, cond, subst, lit<, slice_get}
use Rattle.std.specs.List.{AllByRecursion}
use Rattle.std.specs.Fmt.{decimal}
use Rattle.std.proofs.lemmas.List.{append-nil}
use Rattle.std.proofs.lemmas.Option.{cond_some}
use Rattle.local_rules.specs.Cover.{IsKey}
use Rattle.avr_model.specs.declared.device.Device.{Device}
use Rattle.avr_model.specs.Devices.{depth_of}
use Rattle.line_reading.specs.Reading.{dec_at, word_at, is_over}
use Rattle.line_reading.specs.Words.{IsWord, WordLaws}
use Rattle.line_reading.proofs.AllLaws.{map_some, bind_some, no_words}
use Rattle.node_keys.specs.declared.keys.InstKey.{InstKey}
use Rattle.node_keys.specs.declared.keys.NodeKey.{NodeKey}
use Rattle.node_keys.specs.Keys.{offset_of, is_root}
use Rattle.edge_rules.specs.declared.seeded.NodeForm.{NodeForm}
use Rattle.edge_rules.specs.declared.seeded.NodeForm.TheVariants.{State, From}
use Rattle.certificate.specs.declared.instance.Inst.{Inst}
use Rattle.certificate.specs.declared.version.Version.{Version}
use Rattle.certificate.specs.Insts.{IsInst}
use Rattle.certificate.specs.Claims.{FitsAt}
use Rattle.certificate.specs.Versions.{NodeIsOf, is_third}
use Rattle.cert_words.specs.KeySpelling.{inst_key_words, point_words, form_words}
use Rattle.cert_words.specs.Text.{inst_words, node_words_at}
use Rattle.cert_words.specs.KeyReading.{inst_key_at, form_at}
use Rattle.cert_words.specs.KeyLaws.{KeyWords}
use Rattle.cert_words.proofs.AllLaws.{depth_room, word_take, dec_take, joined_words, cons}
use Rattle.cert_format.specs.LineReading.{inst_in, instance_at, whole_key_at, node_in}
use Rattle.cert_format.specs.LineLaws.{InstLines, IsInstanceOf, IsNodeLine, NodeLines}

over_end : {A : Type 0} (x y : A) (ws : List (List ℕ)) → cond (is_over ws) (Some x) None ≡ Some y → (ws ≡ []) × (x ≡ y)
over_end x y ws e = let t = cond_some (is_over ws) x y e in (no_words ws t.0, t.1)

-- ---- instances

inst_take : (device : Device) → WordLaws → KeyWords → (ws : List (List ℕ)) (x : Inst) → inst_in device ws ≡ Some x → (ws ≡ inst_words device x) × IsInst device x
unfolding inst_in
inst_take device k v ws x e =
    let h = bind_some (word_at (codes "inst") ws) _ x e in
    let key = bind_some (inst_key_at device h.0.1) _ x h.2 in
    let r = bind_some (word_at (codes "rank") key.0.1) _ x key.2 in
    let rank = bind_some (dec_at 65535 r.0.1) _ x r.2 in
    let n = bind_some (word_at (codes "need") rank.0.1) _ x rank.2 in
    let need = bind_some (dec_at (depth_of device) n.0.1) _ x n.2 in
    let last = over_end {A = Inst} (record { key = key.0.0; rank = rank.0.0; need = need.0.0 }) x need.0.1 need.2 in
    let front = v.insts.spelled device h.0.1 key.0.1 key.0.0 key.1 in
    let d = dec_take k 65535 r.0.1 rank.0 (lit< tt) rank.1 in
    let m = dec_take k (depth_of device) n.0.1 need.0 (depth_room device) need.1 in
    let P : Inst → Type 0 = λ y. (ws ≡ inst_words device y) × IsInst device y in
    let behind = word_take (codes "rank") key.0.1 r.0 r.1 ∙ ap (cons (codes "rank")) (d.0 ∙ ap (cons (decimal rank.0.0)) (word_take (codes "need") rank.0.1 n.0 n.1 ∙ ap (cons (codes "need")) (m.0 ∙ ap (cons (decimal need.0.0)) last.0))) in
    subst P last.1 (
      word_take (codes "inst") ws h.0 h.1 ∙ ap (cons (codes "inst")) (front.0 ∙ ap (λ (xs : List (List ℕ)). inst_key_words device key.0.0 ++ xs) behind),
      record { kind = front.1.kind; masks = front.1.masks; rank = omega (arith, d.1); need = m.1 },
    )

inst_again : (device : Device) → WordLaws → KeyWords → (x : Inst) → IsInst device x → inst_in device (inst_words device x) ≡ Some x
unfolding inst_in
inst_again device k v x h =
    let key = v.insts.read device x.key (codes "rank" ∷ decimal x.rank ∷ codes "need" ∷ decimal x.need ∷ []) (record { kind = h.kind; masks = h.masks }) in
    let d = k.dec_taken 65535 x.rank (codes "need" ∷ decimal x.need ∷ []) (lit< tt) (omega (arith, h.rank)) in
    let m = k.dec_taken (depth_of device) x.need [] (depth_room device) h.need in
    rw (key, d, m) refl

inst_plain : (device : Device) → WordLaws → KeyWords → (x : Inst) → IsInst device x → AllByRecursion IsWord (inst_words device x)
inst_plain device k v x h = (
  ((refl, (refl, (refl, (refl, tt)))), (refl, (refl, (refl, (refl, tt))))),
  joined_words (inst_key_words device x.key) (codes "rank" ∷ decimal x.rank ∷ codes "need" ∷ decimal x.need ∷ []) (v.insts.words device x.key (record { kind = h.kind; masks = h.masks })) (
    ((refl, (refl, (refl, (refl, tt)))), (refl, (refl, (refl, (refl, tt))))),
    (
      k.dec_word x.rank (omega (arith, h.rank)),
      (
        ((refl, (refl, (refl, (refl, tt)))), (refl, (refl, (refl, (refl, tt))))),
        (k.dec_word x.need (omega (arith, h.need, depth_room device)), tt),
      ),
    ),
  ),
)

pub inst_lines : WordLaws → KeyWords → InstLines
inst_lines k v = record { spelled = λ d. inst_take d k v; read = λ d. inst_again d k v; words = λ d. inst_plain d k v }

-- ---- nodes

record InstanceRead (insts : List Inst) (ws : List (List ℕ)) (z : InstKey × List (List ℕ)) : Type 0 where
  pub number : ℕ
  pub inst : Inst
  pub there : slice_get insts number ≡ Some inst
  pub same : inst.key ≡ z.0
  pub words : ws ≡ codes "node" ∷ decimal number ∷ z.1

instance_take : WordLaws → (insts : List Inst) (ws : List (List ℕ)) (z : InstKey × List (List ℕ)) → instance_at insts ws ≡ Some z → InstanceRead insts ws z
unfolding instance_at
instance_take k insts ws z e =
    let h = bind_some (word_at (codes "node") ws) _ z e in
    let j = bind_some (dec_at 65535 h.0.1) _ z h.2 in
    let x = map_some (slice_get insts j.0.0) (λ x. (x.key, j.0.1)) z j.2 in
    let d = dec_take k 65535 h.0.1 j.0 (lit< tt) j.1 in
    record {
      number = j.0.0;
      inst = x.0;
      there = x.1;
      same = ap (λ (y : InstKey × List (List ℕ)). y.0) x.2;
      words = word_take (codes "node") ws h.0 h.1 ∙ ap (cons (codes "node")) (d.0 ∙ ap (λ (y : InstKey × List (List ℕ)). decimal j.0.0 ∷ y.1) x.2);
    }

instance_again : WordLaws → (insts : List Inst) (number : ℕ) (x : Inst) (rest : List (List ℕ)) → number < 65536 → slice_get insts number ≡ Some x → instance_at insts (codes "node" ∷ decimal number ∷ rest) ≡ Some (x.key, rest)
unfolding instance_at
instance_again k insts number x rest small there =
    let d = k.dec_taken 65535 number rest (lit< tt) (omega (arith, small)) in
    rw (d, there) refl

node_take : (device : Device) → WordLaws → KeyWords → (version : Version) (insts : List Inst) (at : ℕ) (ws : List (List ℕ)) (n : NodeKey × NodeForm) → node_in device version insts at ws ≡ Some n → IsNodeLine device version insts at ws n
unfolding node_in whole_key_at
node_take device k v version insts at ws n e =
    let key = bind_some (whole_key_at device version insts ws) _ n e in
    let x = bind_some (instance_at insts ws) _ key.0 key.1 in
    let s = bind_some (form_at device version (is_root key.0.0.inst.kind) (offset_of key.0.0.sp) at key.0.1) _ n key.2 in
    let last = over_end {A = NodeKey × NodeForm} (key.0.0, s.0.0) n s.0.1 s.2 in
    let read = instance_take k insts ws x.0 x.1 in
    let front = v.points.spelled device version x.0.0 x.0.1 key.0.1 key.0.0 x.2 in
    let form = v.forms.spelled device version at key.0.0 key.0.1 s.0.1 s.0.0 front.key_fits s.1 in
    let behind : key.0.1 ≡ form_words device version s.0.0 = form.0 ∙ ap (λ (xs : List (List ℕ)). form_words device version s.0.0 ++ xs) last.0 ∙ append-nil (form_words device version s.0.0) in
    let P : NodeKey × NodeForm → Type 0 = λ y. IsNodeLine device version insts at ws y in
    subst P last.1 (record {
      number = read.number;
      words = read.words ∙ ap (λ (xs : List (List ℕ)). codes "node" ∷ decimal read.number ∷ xs) (front.words ∙ ap (λ (xs : List (List ℕ)). point_words device version key.0.0 ++ xs) behind);
      inst = record { inst = read.inst; there = read.there; same = read.same ∙ front.same };
      fits = form.1;
      of_version = record { key = front.of_version; form = form.2 };
    })

key_of : (device : Device) (followed : Bool) (at : ℕ) (key : NodeKey) (form : NodeForm) → FitsAt device followed at key form → IsKey device key
key_of device followed at key (State s) h = record { word = h.word; small = h.small; masks = h.masks; fits = h.fits; pick = h.pick }
key_of device followed at key (From m) h = h.0

node_again : (device : Device) → WordLaws → KeyWords → (version : Version) (insts : List Inst) (at number : ℕ) (n : NodeKey × NodeForm) → at ≤ 65536 → number < 65536 → IsInstanceOf insts number n.0 → FitsAt device (is_third version) at n.0 n.1 → NodeIsOf version n
    → node_in device version insts at (node_words_at device version number n) ≡ Some n
unfolding node_in whole_key_at
node_again device k v version insts at number n few small i h o =
    let rest : List (List ℕ) = point_words device version n.0 ++ form_words device version n.1 in
    let first : instance_at insts (node_words_at device version number n) ≡ Some (n.0.inst, rest) = instance_again k insts number i.inst rest small i.there ∙ ap (λ (x : InstKey). Some (x, rest)) i.same in
    let key = v.points.read device version n.0 (form_words device version n.1) (key_of device (is_third version) at n.0 n.1 h) o.key in
    let form = v.forms.read device version at n.0 n.1 few h o.form in
    rw (first, key, form) refl

node_plain : (device : Device) → WordLaws → KeyWords → (version : Version) (at number : ℕ) (n : NodeKey × NodeForm) → at ≤ 65536 → number < 65536 → FitsAt device (is_third version) at n.0 n.1 → NodeIsOf version n → AllByRecursion IsWord (node_words_at device version number n)
node_plain device k v version at number n few small h o = (
  ((refl, (refl, (refl, (refl, tt)))), (refl, (refl, (refl, (refl, tt))))),
  (
    k.dec_word number (omega (arith, small)),
    joined_words (point_words device version n.0) (form_words device version n.1) (v.points.words device version n.0 (key_of device (is_third version) at n.0 n.1 h)) (v.forms.words device version at n.0 n.1 few h o.form),
  ),
)

pub node_lines : WordLaws → KeyWords → NodeLines
node_lines k v = record { spelled = λ d. node_take d k v; read = λ d. node_again d k v; words = λ d. node_plain d k v }

-- The depths of cut instances.
use Rattle.std.proofs.Common.{◌≡◌, ◌≤◌, ◌==◌, ℕ, Bool, true, false, nat_le, if◌then◌else◌, List, [], ◌∷◌, Option, Some, None, Contains, subst, sym, ap, arith}
use Rattle.std.proofs.lemmas.Bool.Decides.{nat_tests}
use Rattle.basics.specs.Items.{first_in, further_in}
use Rattle.avr_model.specs.declared.assumption.Entry.{Entry}
use Rattle.avr_model.specs.declared.assumption.Entry.TheVariants.{Pairs, Masks, Jump, Store, Prove, Free, Never, Frame, Recur, Scratch}
use Rattle.avr_model.specs.Assumptions.{recur_line}
use Rattle.avr_model.specs.State.{SIZE}
use Rattle.vector_table.specs.Entries.{is_word, is_entry, AreEntries}
use Rattle.node_keys.specs.declared.keys.InstKey.{InstKey}
use Rattle.node_keys.specs.declared.keys.Kind.{Kind}
use Rattle.node_keys.specs.declared.keys.Kind.TheVariants.{Root, Call, Vector}
use Rattle.node_keys.specs.Keys.{if_called, cut_at}
use Rattle.edge_laws.specs.Laws.{CutDepthsAreSmall}

-- a line of the list
record IsListed (A : List Entry) (depth : ℕ) : Type 0 where
  word : ℕ
  has : Contains A (Recur word depth)

listed : (A : List Entry) (word depth : ℕ) → recur_line A word ≡ Some depth → IsListed A depth
unfolding recur_line
listed [] word depth e = absurd (cc)
listed (Pairs ∷ es) word depth e = let l = listed es word depth e in record { word = l.word; has = further_in _ _ es l.has }
listed (Masks ∷ es) word depth e = let l = listed es word depth e in record { word = l.word; has = further_in _ _ es l.has }
listed (Jump at words ∷ es) word depth e = let l = listed es word depth e in record { word = l.word; has = further_in _ _ es l.has }
listed (Store at addresses ∷ es) word depth e = let l = listed es word depth e in record { word = l.word; has = further_in _ _ es l.has }
listed (Prove at ∷ es) word depth e = let l = listed es word depth e in record { word = l.word; has = further_in _ _ es l.has }
listed (Free at ∷ es) word depth e = let l = listed es word depth e in record { word = l.word; has = further_in _ _ es l.has }
listed (Never at ∷ es) word depth e = let l = listed es word depth e in record { word = l.word; has = further_in _ _ es l.has }
listed (Frame at ∷ es) word depth e = let l = listed es word depth e in record { word = l.word; has = further_in _ _ es l.has }
listed (Scratch at ∷ es) word depth e = let l = listed es word depth e in record { word = l.word; has = further_in _ _ es l.has }
listed (Recur at most ∷ es) word depth e = by (at == word) (listed es word depth) e
  where
    by : (b : Bool) → (recur_line es word ≡ Some depth → IsListed es depth) → (if b then Some most else recur_line es word) ≡ Some depth → IsListed (Recur at most ∷ es) depth
    by true later is = let same : most ≡ depth = cc in record { word = at; has = subst (λ (d : ℕ). Contains (Recur at most ∷ es) (Recur at d)) same (first_in (Recur at most) es) }
    by false later is = let l = later is in record { word = l.word; has = further_in _ _ es l.has }

small : (word depth : ℕ) → is_entry (Recur word depth) ≡ true → depth ≤ SIZE
small word depth e = grind (arith, nat_tests)

line_small : (A : List Entry) (word depth : ℕ) → AreEntries A → recur_line A word ≡ Some depth → depth ≤ SIZE
line_small A word depth are e =
    let l = listed A word depth e in
    let here = are.each l.has.0 (Recur l.word depth) l.has.1 in
    small l.word depth (subst (λ (x : Entry). is_entry x ≡ true) l.has.2 here)

pub cut_depths_are_small : CutDepthsAreSmall
unfolding cut_at
cut_depths_are_small A inst depth are e = by inst.kind e
  where
    by : (kind : Kind) → if_called kind (recur_line A inst.entry) ≡ Some depth → depth ≤ SIZE
    by Root is = absurd (cc)
    by Call is = line_small A inst.entry depth are is
    by (Vector v) is = absurd (cc)

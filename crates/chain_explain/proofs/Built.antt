-- Lists that are built one after the other.
use Rattle.std.proofs.Common.{◌≡◌, sym, ap, ◌∙◌, subst, ℕ, zero, suc, ◌+◌, ◌-◌, ◌<◌, ⊎_elim, List, [], ◌∷◌, ◌++◌, length, map, get_or, take, drop, drop-cons, add-one, append_assoc, arith}
use Rattle.std.proofs.lemmas.List.{take_more, length_push}
use Rattle.basics.specs.Lists.{get_or_front, get_or_pushed}
use Rattle.basics.specs.Numbers.{before_or_last}
use Rattle.local_rules.specs.declared.local.Node.{Node}
use Rattle.instance_graph.specs.declared.graph.Link.{Link}
use Rattle.chain_explain.specs.declared.explanation.Part.{Part}
use Rattle.chain_explain.specs.Explanation.{IsPart, AreParts}
use Rattle.chain_explain.specs.Moves.{IsPortion, IsThere, AreThere}
use Rattle.local_rules.specs.Site.{Task}

-- ---- portions

pub portion_none : (graph : List (List ℕ)) (low count : ℕ) → count ≡ 0 → IsPortion graph low count []
portion_none graph low count e = record { count_is = sym e; each = λ i lt. absurd (omega (arith, lt, e)) }

pub portion_more : (graph portion : List (List ℕ)) (low count : ℕ) (nexts : List ℕ) → IsPortion graph low count portion → nexts ≡ map (λ j. j - low) (get_or graph (low + count) [])
    → IsPortion graph low (count + 1) (portion ++ nexts ∷ [])
portion_more graph portion low count nexts p is =
    record {
      count_is = length_push portion nexts ∙ ap (λ x. x + 1) p.count_is;
      each = λ i lt. ⊎_elim
          (λ l. get_or_front portion (nexts ∷ []) i [] (subst (λ k. i < k) (sym p.count_is) l) ∙ p.each i l)
          (λ e. ap (λ k. get_or (portion ++ nexts ∷ []) k []) (e ∙ sym p.count_is) ∙ get_or_pushed portion nexts [] ∙ is ∙ ap (λ k. map (λ j. j - low) (get_or graph (low + k) [])) (sym e))
          (before_or_last i count lt);
    }

-- ---- parts

-- one link more, with those behind it
pub parts_more : (task : Task) (nodes reached : List Node) (links behind : List Link) (parts : List Part) (link : Link) (part : Part)
    → AreParts task nodes reached links (link ∷ behind) parts → IsPart task nodes reached link behind part → AreParts task nodes reached (links ++ link ∷ []) behind (parts ++ part ∷ [])
parts_more task nodes reached [] behind [] link part h is = (is, tt)
parts_more task nodes reached [] behind (p ∷ parts) link part h is = absurd h
parts_more task nodes reached (l ∷ links) behind [] link part h is = absurd h
parts_more task nodes reached (l ∷ links) behind (p ∷ parts) link part h is = (
  subst (λ (rest : List Link). IsPart task nodes reached l rest p) (sym (append_assoc links (link ∷ []) behind)) h.0,
  parts_more task nodes reached links behind parts link part h.1 is,
)

pub read_there : (reached : List Node) (links : List Link) (i : ℕ) (d : Link) → AreThere reached links → i < length links → IsThere reached (get_or links i d) (get_or links i d).way
read_there reached [] i d h lt = absurd (omega (arith, lt))
read_there reached (l ∷ links) zero d h lt = h.0
read_there reached (l ∷ links) (suc i) d h lt = read_there reached links i d h.1 (omega (arith, lt))

pub parts_take : (task : Task) (nodes reached : List Node) (links : List Link) (k : ℕ) (d : Link) (parts : List Part) (part : Part) → k < length links
    → AreParts task nodes reached (take k links) (drop k links) parts → IsPart task nodes reached (get_or links k d) (drop (k + 1) links) part
    → AreParts task nodes reached (take (k + 1) links) (drop (k + 1) links) (parts ++ part ∷ [])
parts_take task nodes reached links k d parts part lt h is =
    let more : drop k links ≡ get_or links k d ∷ drop (k + 1) links = rw add-one (drop-cons links k d lt) in
    subst (λ (ls : List Link). AreParts task nodes reached ls (drop (k + 1) links) (parts ++ part ∷ [])) (sym (take_more links k d lt))
    (parts_more task nodes reached (take k links) (drop (k + 1) links) parts (get_or links k d) part
    (subst (λ (rest : List Link). AreParts task nodes reached (take k links) rest parts) more h) is)

use Rattle.std.proofs.Common.{◌∙◌, sym, ap, refl, ℕ, List, true, false}
use Rattle.std.proofs.lemmas.Bool.{false≢true}
use Rattle.avr_model.specs.declared.assumption.Entry.TheVariants.{Jump, Store}
use Rattle.assumption_files.proofs.Fitting.{jump_admitted, store_admitted, recur_admitted, bare_is, alone_is}
use Rattle.assumption_files.proofs.reading.is_entry.Goals as goal
use Rattle.assumption_files.proofs.reading.is_entry.Goals.{then-is_word, else-is_word, then-is_word-2, else-is_word-2}

pub returns-then-are_words : goal.returns-then-are_words
returns-then-are_words c = elim c.if-is_word.branch [
  | then-is_word w ↦
      jump_admitted c.args.device c.in-Jump.site c.as_slice-words.result.now c.args.entry.now true true c.are_all_words.result (sym w.if-is_word.true ∙ c.is_word.ensures)
      (sym c.if-are_words.true ∙ w.value-is ∙ w.are_words.ensures) c.are_all_words.ensures
      (c.in-Jump.is ∙ ap (λ (ws : List ℕ). Jump c.in-Jump.site ws) (sym c.as_slice-words.ensures))
  | else-is_word w ↦ absurd (false≢true (sym w.if-is_word.false ∙ sym w.value-is ∙ c.if-are_words.true))
]

pub returns-else-are_words : goal.returns-else-are_words
returns-else-are_words c = c.if-are_words.false ∙ elim c.if-is_word.branch [
  | then-is_word w ↦
      jump_admitted c.args.device c.in-Jump.site c.as_slice-words.result.now c.args.entry.now true false _ (sym w.if-is_word.true ∙ c.is_word.ensures)
      (sym c.if-are_words.false ∙ w.value-is ∙ w.are_words.ensures) refl
      (c.in-Jump.is ∙ ap (λ (ws : List ℕ). Jump c.in-Jump.site ws) (sym c.as_slice-words.ensures))
  | else-is_word w ↦
      jump_admitted c.args.device c.in-Jump.site c.as_slice-words.result.now c.args.entry.now false _ _ (sym w.if-is_word.false ∙ c.is_word.ensures) refl refl
      (c.in-Jump.is ∙ ap (λ (ws : List ℕ). Jump c.in-Jump.site ws) (sym c.as_slice-words.ensures))
]

pub returns-then-are_addresses : goal.returns-then-are_addresses
returns-then-are_addresses c = elim c.if-is_word-2.branch [
  | then-is_word-2 w ↦
      store_admitted c.args.device c.in-Store.site c.as_slice-addresses.result.now c.args.entry.now true true c.are_all_protected.result (sym w.if-is_word-2.true ∙ c.is_word-in-Store.ensures)
      (sym c.if-are_addresses.true ∙ w.value-is ∙ w.are_addresses.ensures) c.are_all_protected.ensures
      (c.in-Store.is ∙ ap (λ (ws : List ℕ). Store c.in-Store.site ws) (sym c.as_slice-addresses.ensures))
  | else-is_word-2 w ↦ absurd (false≢true (sym w.if-is_word-2.false ∙ sym w.value-is ∙ c.if-are_addresses.true))
]

pub returns-else-are_addresses : goal.returns-else-are_addresses
returns-else-are_addresses c = c.if-are_addresses.false ∙ elim c.if-is_word-2.branch [
  | then-is_word-2 w ↦
      store_admitted c.args.device c.in-Store.site c.as_slice-addresses.result.now c.args.entry.now true false _ (sym w.if-is_word-2.true ∙ c.is_word-in-Store.ensures)
      (sym c.if-are_addresses.false ∙ w.value-is ∙ w.are_addresses.ensures) refl
      (c.in-Store.is ∙ ap (λ (ws : List ℕ). Store c.in-Store.site ws) (sym c.as_slice-addresses.ensures))
  | else-is_word-2 w ↦
      store_admitted c.args.device c.in-Store.site c.as_slice-addresses.result.now c.args.entry.now false _ _ (sym w.if-is_word-2.false ∙ c.is_word-in-Store.ensures) refl refl
      (c.in-Store.is ∙ ap (λ (ws : List ℕ). Store c.in-Store.site ws) (sym c.as_slice-addresses.ensures))
]

pub returns-then-is_word-3 : goal.returns-then-is_word-3
returns-then-is_word-3 c =
    recur_admitted c.args.device c.in-Recur.word c.in-Recur.depth c.args.entry.now true c.is_depth.result (sym c.if-is_word-3.true ∙ c.is_word-in-Recur.ensures)
    c.is_depth.ensures c.in-Recur.is

pub returns-else-is_word-3 : goal.returns-else-is_word-3
returns-else-is_word-3 c =
    c.if-is_word-3.false
    ∙ recur_admitted c.args.device c.in-Recur.word c.in-Recur.depth c.args.entry.now false _ (sym c.if-is_word-3.false ∙ c.is_word-in-Recur.ensures) refl c.in-Recur.is

pub returns-in-Pairs : goal.returns-in-Pairs
returns-in-Pairs c = bare_is c.args.device c.args.entry.now c.in-Pairs.is

pub returns-in-Pairs-2 : goal.returns-in-Pairs-2
returns-in-Pairs-2 c = bare_is c.args.device c.args.entry.now c.in-Pairs.is

pub returns-in-Prove : goal.returns-in-Prove
returns-in-Prove c = c.is_word-in-Prove.ensures ∙ alone_is c.args.device c.in-Prove.site c.args.entry.now c.in-Prove.is

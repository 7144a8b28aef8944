use Rattle.std.proofs.Common.{ap, ap₂, ◌∙◌, ℕ, [], ◌∷◌, codes, decimal}
use Rattle.std.proofs.lemmas.Result.{IfOk-weaker}
use Rattle.text_base.specs.Writing.{Written, with_words, with_end}
use Rattle.replies.specs.Places.{place_words}
use Rattle.replies.proofs.places.unclear_text.Goals as goal

pub returns : goal.returns
returns c =
    let counted = c.in_ok-put_two_and_number.ensures ∙ ap₂ (λ (x : Written) (n : ℕ). with_words x (codes "unclear" ∷ codes "node" ∷ decimal n ∷ [])) c.new-line.ensures c.from.ensures in
    IfOk-weaker c.ended.result _ _ (λ v e. e ∙ ap (λ (x : Written). (with_end x).bytes) (c.in_ok-put_place.ensures ∙ ap (λ (x : Written). with_words x (place_words c.args.flash.now c.args.pc)) counted)) c.ended.ensures

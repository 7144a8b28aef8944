use Rattle.std.proofs.Common.{◌≡◌, ℕ, List, [], true, false, map, sym, subst, ◌∙◌}
use Rattle.std.proofs.lemmas.Bool.{false≢true}
use Rattle.std.specs.Borrow.{Bor}
use Rattle.std.specs.List.{list_any}
use Rattle.clap.specs.Words.{App, HasMatchesOf, fault_of, is_simple_and_free, takes, kind_of}
use Rattle.clap.specs.declared.error.kind.ErrorKind.TheVariants.{OutOfMemory}
use Rattle.commands.specs.Lines.{is_refused, line_app}
use Rattle.commands.proofs.Taken.{IsTold, line_free, line_simple, not_taken, not_free, told}
use Rattle.commands.proofs.words.command_named.Goals as goal

pub returns-then-has_refused : goal.returns-then-has_refused
returns-then-has_refused c = not_free (map (λ (w : Bor (List ℕ)). w.now) c.args.words.now) (sym c.has_refused.ensures ∙ c.if-has_refused.true)

pub returns-in-Ok : goal.returns-in-Ok
returns-in-Ok c =
    let words : List (List ℕ) = map (λ (w : Bor (List ℕ)). w.now) c.args.words.now in
    let app_is = c.in_ok-line_command.ensures in
    let free : list_any is_refused words ≡ false = sym c.has_refused.ensures ∙ c.if-has_refused.false in
    let faults : fault_of line_app words ≡ [] =
    subst (λ (a : App). is_simple_and_free a ≡ true → fault_of a words ≡ []) app_is c.in-Ok.ensures.kinds line_free in
    let found = subst (λ (a : App). HasMatchesOf a words c.in-Ok.matches) app_is c.in-Ok.ensures.matches line_simple in
    let t : IsTold words = told words free faults in
    c.command_in.ensures t.name t.rows t.line (found.1 ∙ t.found) t.shows ∙ t.command

pub returns : goal.returns
returns c =
    let words : List (List ℕ) = map (λ (w : Bor (List ℕ)). w.now) c.args.words.now in
    let passes : takes line_app words ≡ true → kind_of c.in-Err.error ≡ OutOfMemory =
    subst (λ a. takes a words ≡ true → kind_of c.in-Err.error ≡ OutOfMemory) c.in_ok-line_command.ensures c.in-Err.ensures.passes in
    not_taken words (λ t. false≢true (sym c.if-eq.false ∙ (rw (c.kind.ensures ∙ passes t) at c.eq.ensures)))

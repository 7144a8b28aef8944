use Rattle.std.proofs.Common.{◌≡◌, ◌<◌, ℕ, Bool, true, false, List, None, length, refl, sym, subst, ◌∙◌, arith}
use Rattle.std.specs.Prelude.{◌↔◌}
use Rattle.avr_model.specs.Image.{WORDS}
use Rattle.certificate.specs.Valid.{family_of}
use Rattle.clear_laws.specs.Places.{IsPlaceOf}
use Rattle.local_rules.specs.declared.local.Node.{Node}
use Rattle.store_clear.specs.Causing.{HappensAt}
use Rattle.store_clear.specs.Numbered.{IsEveryNode}
use Rattle.store_clear.specs.Pointers.{IsPointerOf}
use Rattle.store_clear.specs.declared.causes.Other.TheVariants.{Live, Moves}
use Rattle.store_clear.proofs.Linked.{word_of_flagged, chain_read}
use Rattle.store_clear.proofs.Causing.{nothing_there, place_given}
use Rattle.store_clear.proofs.causes.place_at.Goals as goal
use Rattle.family_edges.specs.Tasks.{task_of}

pub returns-in-None-clause-exact : goal.returns-in-None-clause-exact
returns-in-None-clause-exact c =
    subst (λ (xs : List ℕ). IsPlaceOf (task_of c.args.task.now) (family_of c.args.certificate.now c.args.told.now.nodes.now) (record { word = c.args.pc; protected = xs; live = false; transfer = false; moves = false; pointer = None })) (sym c.empty.ensures)
    (nothing_there (task_of c.args.task.now) c.args.certificate.now c.args.told.now.nodes.now c.args.told.now.conditions.now c.requires.told c.args.pc (sym c.instruction.ensures ∙ c.in-None.is))

pub returns-in_ok-protected-in-Some-clause-exact : goal.returns-in_ok-protected-in-Some-clause-exact
returns-in_ok-protected-in-Some-clause-exact c =
    let told = c.args.told.now in
    let task = task_of c.args.task.now in
    let alive =
    subst (λ (b : ℕ). (c.happens_at-live.result ≡ true) ↔ HappensAt task b Live told.nodes.now told.conditions.now c.args.pc c.in-Some.instr (length told.conditions.now)) c.bound-bound.ensures c.happens_at-live.ensures in
    let moving =
    subst (λ (b : ℕ). (c.happens_at-moves.result ≡ true) ↔ HappensAt task b Moves told.nodes.now told.conditions.now c.args.pc c.in-Some.instr (length told.conditions.now)) c.bound-bound.ensures c.happens_at-moves.ensures in
    subst
    (λ (b : Bool). IsPlaceOf task (family_of c.args.certificate.now told.nodes.now)
    (record { word = c.args.pc; protected = c.in_ok-protected-in-Some.protected; live = c.happens_at-live.result; transfer = b; moves = c.happens_at-moves.result; pointer = c.pointer_at.result }))
    (sym c.is_transfer.ensures)
    (place_given task c.args.certificate.now told.nodes.now told.conditions.now c.requires.told c.args.pc c.in-Some.instr (sym c.instruction.ensures ∙ c.in-Some.is)
    c.in_ok-protected-in-Some.protected c.happens_at-live.result c.happens_at-moves.result c.in_ok-protected-in-Some.ensures.exact c.in_ok-protected-in-Some.ensures.ascending
    alive moving c.requires.site c.pointer_at.result
    (subst (λ (ns : List Node). IsPointerOf ns c.args.pc c.in-Some.instr c.pointer_at.result) c.requires.every.are c.pointer_at.ensures))

pub index-requires : goal.index-requires
index-requires c =
    let task = task_of c.args.task.now in
    let small : c.args.pc < WORDS = word_of_flagged task c.args.certificate.now c.args.told.now.nodes.now c.args.pc c.count-count.ensures.shown c.requires.site in
    omega (arith, small, c.requires.linked.words, c.args.links.now.first.ok.0)

pub protected_of-requires-clause-chain : goal.protected_of-requires-clause-chain
protected_of-requires-clause-chain c =
    let task = task_of c.args.task.now in
    let told = c.args.told.now in
    let links = c.args.links.now in
    let small = word_of_flagged task c.args.certificate.now told.nodes.now c.args.pc c.count-count.ensures.shown c.requires.site in
    chain_read told.nodes.now told.conditions.now c.args.pc c.args.pc c.index.result.now links.first.items links.later.items c.as_slice.result.now small c.requires.linked refl c.index.ensures
    c.as_slice.ensures.value

pub happens_at-live-requires-clause-chain : goal.happens_at-live-requires-clause-chain
happens_at-live-requires-clause-chain c =
    let task = task_of c.args.task.now in
    let told = c.args.told.now in
    let links = c.args.links.now in
    let small = word_of_flagged task c.args.certificate.now told.nodes.now c.args.pc c.count-count.ensures.shown c.requires.site in
    chain_read told.nodes.now told.conditions.now c.args.pc c.args.pc c.index.result.now links.first.items links.later.items c.as_slice.result.now small c.requires.linked refl c.index.ensures
    c.as_slice.ensures.value

pub happens_at-moves-requires-clause-chain : goal.happens_at-moves-requires-clause-chain
happens_at-moves-requires-clause-chain c =
    let task = task_of c.args.task.now in
    let told = c.args.told.now in
    let links = c.args.links.now in
    let small = word_of_flagged task c.args.certificate.now told.nodes.now c.args.pc c.count-count.ensures.shown c.requires.site in
    chain_read told.nodes.now told.conditions.now c.args.pc c.args.pc c.index.result.now links.first.items links.later.items c.as_slice.result.now small c.requires.linked refl c.index.ensures
    c.as_slice.ensures.value

pub pointer_at-requires-clause-every : goal.pointer_at-requires-clause-every
pointer_at-requires-clause-every c = subst (λ (ns : List Node). IsEveryNode ns c.args.every.now) (sym c.requires.every.are) c.requires.every

pub pointer_at-requires-clause-word : goal.pointer_at-requires-clause-word
pointer_at-requires-clause-word c = word_of_flagged (task_of c.args.task.now) c.args.certificate.now c.args.told.now.nodes.now c.args.pc c.count-count.ensures.shown c.requires.site

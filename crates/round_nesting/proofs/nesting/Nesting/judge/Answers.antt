use Rattle.std.proofs.Common.{subst, sym, Bool, List, Contains}
use Rattle.node_keys.specs.declared.keys.InstKey.{InstKey}
use Rattle.node_keys.specs.Keys.{root_inst}
use Rattle.round_nesting.specs.declared.verdict.NestingVerdict.TheVariants.{Nests}
use Rattle.round_nesting.specs.Nestings.{Noted, AreOnce, AreAlike, TellsAll}
use Rattle.round_nesting.specs.Drawn.{insts_of}
use Rattle.round_nesting.proofs.Keeping.{insts_once, root_kept, alike}
use Rattle.round_nesting.proofs.Covering.{nests}
use Rattle.round_nesting.proofs.nesting.Nesting.judge.Goals as goal

pub returns-then-serve-clause-tells : goal.returns-then-serve-clause-tells
returns-then-serve-clause-tells c =
    let old : Noted = record { insts = insts_of c.self.inside.has_root c.self.inside.others.keys; spots = c.self.inside.spots.keys; entrances = c.self.inside.entrances.keys } in
    subst (λ (n : Noted). TellsAll c.args.device n Nests) c.self.view_is
    (nests c.args.device c.self.inside.allowances.back c.self.inside.allowances.map.entries old (c.serve.ensures.some c.if-serve.true) (c.serve.ensures.back c.if-serve.true) (c.serve.ensures.root c.if-serve.true)
    (c.self.invariant.covers c.if-self.true))

pub returns-then-serve-clause-once : goal.returns-then-serve-clause-once
returns-then-serve-clause-once c = subst (λ (n : Noted). AreOnce n.insts) c.self.view_is (insts_once c.self.inside.has_root c.self.inside.others.keys c.self.invariant.apart)

pub returns-then-not-self-clause-tells : goal.returns-then-not-self-clause-tells
returns-then-not-self-clause-tells c task f sized root nesting =
    let there = subst (λ (n : Noted). Contains n.insts root_inst) (sym c.self.view_is) ((nesting.insts root_inst).1 root) in
    let kept = root_kept c.self.inside.has_root c.self.inside.others.keys c.self.invariant.apart there in
    let none = c.if-not-self.true in
    absurd (cc)

pub returns-in_err-judged-clause-once : goal.returns-in_err-judged-clause-once
returns-in_err-judged-clause-once c = subst (λ (n : Noted). AreOnce n.insts) c.self.view_is (insts_once c.self.inside.has_root c.self.inside.others.keys c.self.invariant.apart)

pub returns-clause-tells : goal.returns-clause-tells
returns-clause-tells c =
    let others : List InstKey = c.self.inside.others.keys in
    subst (λ (n : Noted). TellsAll c.args.device n c.in_ok-judged.judged.verdict) c.self.view_is
    (subst (λ (b : Bool). TellsAll c.args.device (record { insts = insts_of b others; spots = c.self.inside.spots.keys; entrances = c.self.inside.entrances.keys }) c.in_ok-judged.judged.verdict)
    (sym c.if-not-self.false) c.in_ok-judged.ensures)

pub returns-clause-same : goal.returns-clause-same
returns-clause-same c =
    let old : Noted = record { insts = insts_of c.self.inside.has_root c.self.inside.others.keys; spots = c.self.inside.spots.keys; entrances = c.self.inside.entrances.keys } in
    subst (λ (n : Noted). AreAlike n old) c.self.view_is (alike old)

pub returns-clause-once : goal.returns-clause-once
returns-clause-once c = insts_once c.self.inside.has_root c.self.inside.others.keys c.self.invariant.apart

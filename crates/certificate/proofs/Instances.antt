-- Instances by number, and their keys.
use Rattle.std.proofs.Common.{◌≡◌, ℕ, zero, suc, subst, List, [], ◌∷◌, Some, slice_get, Contains}
use Rattle.std.specs.List.{AllByRecursion}
use Rattle.std.proofs.lemmas.Option.{none-some, same_Some}
use Rattle.basics.specs.Items.{first_in, further_in}
use Rattle.node_keys.specs.declared.keys.InstKey.{InstKey}
use Rattle.certificate.specs.declared.instance.Inst.{Inst}
use Rattle.certificate.specs.Insts.{inst_keys}

pub key_has : (P : InstKey → Type 0) (xs : List Inst) (j : ℕ) (x : Inst) → AllByRecursion P (inst_keys xs) → slice_get xs j ≡ Some x → P x.key
key_has P [] j x h e = absurd (none-some x e)
key_has P (y ∷ ys) zero x h e = subst (λ (z : Inst). P z.key) (same_Some y x e) h.0
key_has P (y ∷ ys) (suc j) x h e = key_has P ys j x h.1 e

pub key_at : (xs : List Inst) (j : ℕ) (x : Inst) → slice_get xs j ≡ Some x → Contains (inst_keys xs) x.key
key_at [] j x e = absurd (none-some x e)
key_at (y ∷ ys) zero x e = subst (λ (z : Inst). Contains (inst_keys (y ∷ ys)) z.key) (same_Some y x e) (first_in y.key (inst_keys ys))
key_at (y ∷ ys) (suc j) x e = further_in y.key x.key (inst_keys ys) (key_at ys j x e)

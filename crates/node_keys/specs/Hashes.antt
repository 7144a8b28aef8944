-- What keys feed to a hasher.
use Rattle.std.proofs.Common.{◌≡◌, ◌∙◌, refl, sym, ap, ℕ, Bool, true, false, List, ◌++◌}
use Rattle.std.specs.Prelude.{◌+◌, ◌*◌, ◌/◌, ◌%◌, ◌^◌, get_or, IsTrue, ◌&&◌, Option, Some, None}
use Rattle.std.specs.Int.{from_bool}
use Rattle.std.specs.Cmp.{Equal-is}
use Rattle.std.specs.Hash as fed
use Rattle.node_keys.specs.declared.keys.Kind.{Kind}
use Rattle.node_keys.specs.declared.keys.Kind.TheVariants.{Root, Call, Vector}
use Rattle.node_keys.specs.declared.keys.InstKey.{InstKey}
use Rattle.node_keys.specs.declared.keys.High.TheVariants.{Known, Tag}
use Rattle.node_keys.specs.declared.keys.SpForm.{SpForm}
use Rattle.node_keys.specs.declared.keys.SpForm.TheVariants.{Closed, Open}
use Rattle.node_keys.specs.declared.keys.NodeKey.{NodeKey}
use Rattle.node_keys.specs.Keys.{offset_of, inst_numbers, node_numbers}
use Rattle.node_keys.specs.Order.{inst_cmp, node_cmp, same_inst, same_node}
use Rattle.node_keys.specs.Total.{numbers_equal}

-- how an instance is entered, as a number
abbrev pub kind_number : Kind → ℕ
kind_number Root = 0
kind_number Call = 1
kind_number (Vector v) = 2 + v

-- the high byte that was written alone, as a number; 0 if the stack pointer is whole
abbrev pub high_number : SpForm → ℕ
high_number (Closed offset) = 0
high_number (Open offset (Known byte)) = 1 + byte
high_number (Open offset (Tag k)) = 257 + k

-- a pick as a number; 0 if there is none
abbrev pub pick_number : Option ℕ → ℕ
pick_number None = 0
pick_number (Some byte) = 1 + byte

-- how an instance is entered, and I there
abbrev pub entered_number : InstKey → ℕ
entered_number k = from_bool k.i + 2 * kind_number k.kind

-- I, delay, pick and stack pointer of a node
abbrev pub form_number : NodeKey → ℕ
form_number k = from_bool k.i + 2 * from_bool k.delay + 4 * pick_number k.pick + 2048 * (offset_of k.sp + 65536 * high_number k.sp)

-- The parts are fed as numbers of 64 bits alone: a hasher takes those fastest, and more so if it takes no others.

-- the first 64 enable bits, and a word with a number and the bits behind these
abbrev pub first_bits : ℕ → ℕ
first_bits masks = masks % 2 ^ 64

abbrev pub word_number : ℕ → ℕ → ℕ → ℕ
word_number word n masks = word + 2 ^ 32 * ((n + 1024 * (masks / 2 ^ 64)) % 2 ^ 32)

-- all parts of an instance
abbrev pub inst_hash : InstKey → List (List ℕ)
inst_hash k = fed.u64 (first_bits k.masks) ++ fed.u64 (word_number k.entry (entered_number k) k.masks)

-- all parts of a node
abbrev pub node_hash : NodeKey → List (List ℕ)
node_hash k = inst_hash k.inst ++ fed.u64 (first_bits k.masks) ++ fed.u64 (word_number k.pc 0 k.masks) ++ fed.u64 (form_number k)

-- ---- equal keys feed a hasher alike, since the numbers of a key give what it feeds

at : List ℕ → ℕ → ℕ
at ns i = get_or ns i 0

inst_fed : List ℕ → List (List ℕ)
inst_fed ns = fed.u64 (first_bits (at ns 3)) ++ fed.u64 (word_number (at ns 2) (at ns 4 + 2 * (at ns 0 + at ns 1)) (at ns 3))

node_fed : List ℕ → List (List ℕ)
node_fed ns =
    inst_fed ns ++ fed.u64 (first_bits (at ns 6)) ++ fed.u64 (word_number (at ns 5) 0 (at ns 6))
    ++ fed.u64 (at ns 7 + 2 * at ns 8 + 4 * (at ns 13 + at ns 14) + 2048 * (at ns 10 + 65536 * (at ns 9 + 256 * at ns 11 + at ns 12)))

inst_by_numbers : (k : InstKey) → inst_hash k ≡ inst_fed (inst_numbers k)
unfolding inst_numbers inst_fed at
inst_by_numbers k = by k.kind
  where
    entered : Kind → InstKey
    entered kind = record { kind = kind; entry = k.entry; masks = k.masks; i = k.i }

    by : (kind : Kind) → inst_hash (entered kind) ≡ inst_fed (inst_numbers (entered kind))
    by Root = refl
    by Call = refl
    by (Vector v) = refl

node_by_numbers : (k : NodeKey) → node_hash k ≡ node_fed (node_numbers k)
unfolding inst_numbers node_numbers inst_fed node_fed at
node_by_numbers k = by k.inst.kind k.sp k.pick
  where
    node : Kind → SpForm → Option ℕ → NodeKey
    node kind sp pick =
        record { inst = record { kind = kind; entry = k.inst.entry; masks = k.inst.masks; i = k.inst.i }; pc = k.pc; masks = k.masks; i = k.i; delay = k.delay; sp = sp; pick = pick }

    is : Kind → SpForm → Option ℕ → Type 0
    is kind sp pick = node_hash (node kind sp pick) ≡ node_fed (node_numbers (node kind sp pick))

    by : (kind : Kind) (sp : SpForm) (pick : Option ℕ) → is kind sp pick
    by Root (Closed o) None = refl
    by Root (Closed o) (Some b) = refl
    by Root (Open o (Known h)) None = refl
    by Root (Open o (Known h)) (Some b) = refl
    by Root (Open o (Tag h)) None = refl
    by Root (Open o (Tag h)) (Some b) = refl
    by Call (Closed o) None = refl
    by Call (Closed o) (Some b) = refl
    by Call (Open o (Known h)) None = refl
    by Call (Open o (Known h)) (Some b) = refl
    by Call (Open o (Tag h)) None = refl
    by Call (Open o (Tag h)) (Some b) = refl
    by (Vector v) (Closed o) None = refl
    by (Vector v) (Closed o) (Some b) = refl
    by (Vector v) (Open o (Known h)) None = refl
    by (Vector v) (Open o (Known h)) (Some b) = refl
    by (Vector v) (Open o (Tag h)) None = refl
    by (Vector v) (Open o (Tag h)) (Some b) = refl

pub insts_alike : (a b : InstKey) → IsTrue (same_inst a b) → inst_hash a ≡ inst_hash b
unfolding inst_cmp same_inst
insts_alike a b h =
    inst_by_numbers a ∙ ap inst_fed (numbers_equal (inst_numbers a) (inst_numbers b) ((Equal-is (inst_cmp a b)).0 h)) ∙ sym (inst_by_numbers b)

pub nodes_alike : (a b : NodeKey) → IsTrue (same_node a b) → node_hash a ≡ node_hash b
unfolding node_cmp same_node
nodes_alike a b h =
    node_by_numbers a ∙ ap node_fed (numbers_equal (node_numbers a) (node_numbers b) ((Equal-is (node_cmp a b)).0 h)) ∙ sym (node_by_numbers b)

-- so do nodes whose comparison is part of another
pub first_alike : (a b : NodeKey) (more : Bool) → IsTrue (same_node a b && more) → node_hash a ≡ node_hash b
first_alike a b more h = by (same_node a b) (λ t. nodes_alike a b t) h
  where
    by : (same : Bool) → (IsTrue same → node_hash a ≡ node_hash b) → IsTrue (same && more) → node_hash a ≡ node_hash b
    by true then t = then refl
    by false then t = absurd (cc)

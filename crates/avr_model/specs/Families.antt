-- The lists of enable places by their numbers, written by tests/devices/rows.
use Rattle.std.specs.Prelude.{ℕ, ◌+◌, ◌==◌, if◌then◌else◌, List, [], ◌∷◌}
use Rattle.avr_model.specs.declared.rows.EnablePlace.{EnablePlace}
use Rattle.avr_model.specs.declared.device_table.TheConstants as table

abbrev pub FAMILIES : List (List EnablePlace)
FAMILIES =
    table.FAMILY_0
    ∷ table.FAMILY_1
    ∷ table.FAMILY_2
    ∷ table.FAMILY_3
    ∷ table.FAMILY_4
    ∷ table.FAMILY_5
    ∷ table.FAMILY_6
    ∷ table.FAMILY_7
    ∷ table.FAMILY_8
    ∷ table.FAMILY_9
    ∷ table.FAMILY_10
    ∷ table.FAMILY_11
    ∷ table.FAMILY_12
    ∷ table.FAMILY_13
    ∷ table.FAMILY_14
    ∷ table.FAMILY_15
    ∷ table.FAMILY_16
    ∷ table.FAMILY_17
    ∷ table.FAMILY_18
    ∷ table.FAMILY_19
    ∷ table.FAMILY_20
    ∷ table.FAMILY_21
    ∷ table.FAMILY_22
    ∷ table.FAMILY_23
    ∷ table.FAMILY_24
    ∷ table.FAMILY_25
    ∷ table.FAMILY_26
    ∷ table.FAMILY_27
    ∷ table.FAMILY_28
    ∷ table.FAMILY_29
    ∷ table.FAMILY_30
    ∷ table.FAMILY_31
    ∷ table.FAMILY_32
    ∷ table.FAMILY_33
    ∷ table.FAMILY_34
    ∷ table.FAMILY_35
    ∷ table.FAMILY_36
    ∷ table.FAMILY_37
    ∷ table.FAMILY_38
    ∷ table.FAMILY_39
    ∷ table.FAMILY_40
    ∷ table.FAMILY_41
    ∷ table.FAMILY_42
    ∷ table.FAMILY_43
    ∷ table.FAMILY_44
    ∷ table.FAMILY_45
    ∷ table.FAMILY_46
    ∷ table.FAMILY_47
    ∷ table.FAMILY_48
    ∷ table.FAMILY_49
    ∷ table.FAMILY_50
    ∷ table.FAMILY_51
    ∷ table.FAMILY_52
    ∷ table.FAMILY_53
    ∷ []

-- the list of this number, where the first has number k; none behind the last
abbrev pub numbered : ℕ → ℕ → List (List EnablePlace) → List EnablePlace
numbered n k [] = []
numbered n k (f ∷ fs) = if n == k then f else numbered n (k + 1) fs

abbrev pub family_of : ℕ → List EnablePlace
family_of n = numbered n 0 FAMILIES

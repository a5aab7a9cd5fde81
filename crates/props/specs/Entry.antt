-- A chain's entries (document 01, "What is handed in" and "Refusals in order", Scene: 5).
use Rattle.std.specs.Prelude.{Ok, List, ℕ, eqb, ltb}
use Rattle.laws.specs.Out.{Out, and_then, refuse}
use Rattle.laws.specs.Pick.{pick}
use Rattle.numbers.specs.Number.{on_number, read_number}
use Rattle.props.specs.declared.entry.Fraction.{Fraction}
use Rattle.props.specs.declared.entry.Property.{Property}
use Rattle.props.specs.declared.entry.PropertyEntry.{PropertyEntry}

-- what stands at a place, and the place past it: two numbers, and a number of at most 255
unfoldable pub fraction_at : List ℕ → ℕ → Out (Fraction × ℕ)
fraction_at s at =
    on_number (read_number s at) (λ n a.
    on_number (read_number s a) (λ d b.
    Ok (record { num = n; den = d }, b)))

unfoldable pub byte_at : List ℕ → ℕ → Out (ℕ × ℕ)
byte_at s at = on_number (read_number s at) (λ v a. refuse (ltb 255 v) 5 (Ok (v, a)))

-- kind 1: width n, d, height n, d, horizontal offset n, d, vertical offset n, d
unfoldable pub clap_at : List ℕ → ℕ → Out (Property × ℕ)
clap_at s at =
    and_then (fraction_at s at) (λ w.
    and_then (fraction_at s w.1) (λ h.
    and_then (fraction_at s h.1) (λ x.
    and_then (fraction_at s x.1) (λ y.
    Ok (
      Property.Clap (record {
        width_n = w.0.num;
        width_d = w.0.den;
        height_n = h.0.num;
        height_d = h.0.den;
        horiz_off_n = x.0.num;
        horiz_off_d = x.0.den;
        vert_off_n = y.0.num;
        vert_off_d = y.0.den;
      }),
      y.1,
    )))))

-- kind 2: angle; kind 3: axis
unfoldable pub irot_at : List ℕ → ℕ → Out (Property × ℕ)
irot_at s at = and_then (byte_at s at) (λ b. Ok (Property.Irot (record { angle = b.0 }), b.1))

unfoldable pub imir_at : List ℕ → ℕ → Out (Property × ℕ)
imir_at s at = and_then (byte_at s at) (λ b. Ok (Property.Imir (record { axis = b.0 }), b.1))

-- kind 4: width n, d, height n, d, each at most 65,535
unfoldable pub iscl_at : List ℕ → ℕ → Out (Property × ℕ)
iscl_at s at =
    and_then (fraction_at s at) (λ w.
    and_then (fraction_at s w.1) (λ h.
    refuse (ltb 65535 w.0.num) 5
    (refuse (ltb 65535 w.0.den) 5
    (refuse (ltb 65535 h.0.num) 5
    (refuse (ltb 65535 h.0.den) 5
    (Ok (
      Property.Iscl (record {
        width_num = w.0.num;
        width_den = w.0.den;
        height_num = h.0.num;
        height_den = h.0.den;
      }),
      h.1,
    )))))))

-- the fields of a kind from 0 to 4
unfoldable pub property_at : List ℕ → ℕ → ℕ → Out (Property × ℕ)
property_at s at kind =
    pick (eqb kind 0) (Ok (Property.Other, at))
    (pick (eqb kind 1) (clap_at s at)
    (pick (eqb kind 2) (irot_at s at)
    (pick (eqb kind 3) (imir_at s at)
    (iscl_at s at))))

-- the entry at a place: kind, essential, fields; 5 a kind above 4 or an essential above 1
unfoldable pub entry_at : List ℕ → ℕ → Out (PropertyEntry × ℕ)
entry_at s at =
    on_number (read_number s at) (λ kind a.
    refuse (ltb 4 kind) 5
    (on_number (read_number s a) (λ essential b.
    refuse (ltb 1 essential) 5
    (and_then (property_at s b kind) (λ p.
    Ok (record { essential = eqb essential 1; property = p.0 }, p.1))))))

-- a property's kind
unfoldable pub kind_of : Property → ℕ
kind_of Property.Other = 0
kind_of (Property.Clap c) = 1
kind_of (Property.Irot t) = 2
kind_of (Property.Imir m) = 3
kind_of (Property.Iscl k) = 4

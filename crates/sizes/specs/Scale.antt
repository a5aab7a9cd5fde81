-- Image scaling (ISO/IEC 23008-12, 6.5.13; document 01, iscl).
use Rattle.std.specs.Prelude.{Ok}
use Rattle.std.specs.Prelude.{◌&&◌, ◌*◌, ◌+◌, ◌-◌, ◌/◌, ◌^◌, ℕ, eqb, ltb}
use Rattle.laws.specs.Out.{Out, refuse}
use Rattle.laws.specs.Pick.{pick}
use Rattle.sizes.specs.declared.iscl.Iscl.{Iscl}
use Rattle.image.specs.declared.size.Size.{Size}

-- side * num / den, rounded up
unfoldable pub scaled_side : ℕ → ℕ → ℕ → ℕ
scaled_side side num den = (side * num + (den - 1)) / den

-- a size that changes: 4 above 2 ^ 30 pixels, or where a side before or after exceeds 2 ^ 26
unfoldable pub within_of : Size → Size → Out Size
within_of before after =
    refuse (ltb (2 ^ 30) (after.width * after.height)) 4
    (refuse (ltb (2 ^ 26) before.width) 4
    (refuse (ltb (2 ^ 26) before.height) 4
    (refuse (ltb (2 ^ 26) after.width) 4
    (refuse (ltb (2 ^ 26) after.height) 4 (Ok after)))))

-- an unchanged size is handed back before the limits are looked at
unfoldable pub changed : Size → Size → Out Size
changed before after =
    pick (eqb after.width before.width && eqb after.height before.height) (Ok before) (within_of before after)

-- 7 any zero; 10 a side above 2 ^ 32 - 1; 4 only if the size changes
unfoldable pub scale_of : Iscl → ℕ → ℕ → Out Size
scale_of k width height =
    refuse (eqb k.width_num 0) 7
    (refuse (eqb k.width_den 0) 7
    (refuse (eqb k.height_num 0) 7
    (refuse (eqb k.height_den 0) 7
    (refuse (ltb (2 ^ 32 - 1) (scaled_side width k.width_num k.width_den)) 10
    (refuse (ltb (2 ^ 32 - 1) (scaled_side height k.height_num k.height_den)) 10
    (changed (record { width = width; height = height })
    (record { width = scaled_side width k.width_num k.width_den; height = scaled_side height k.height_num k.height_den })))))))

-- Worked examples of the layout for a size and an alignment, checked by computation.
use Rattle.std.proofs.Common.{◌≡◌, refl}
use Rattle.model_core.specs.Layouts.{layout_of}

layout_1_8 : layout_of 1 8 ≡ record { chunk = 16; order = 0; room = 4064; count = 254; colours = 1 }
unfolding layout_of
layout_1_8 = refl

layout_16_16 : layout_of 16 16 ≡ record { chunk = 16; order = 0; room = 4064; count = 254; colours = 1 }
unfolding layout_of
layout_16_16 = refl

layout_17_8 : layout_of 17 8 ≡ record { chunk = 24; order = 0; room = 4064; count = 169; colours = 2 }
unfolding layout_of
layout_17_8 = refl

layout_24_8 : layout_of 24 8 ≡ record { chunk = 24; order = 0; room = 4064; count = 169; colours = 2 }
unfolding layout_of
layout_24_8 = refl

layout_64_8 : layout_of 64 8 ≡ record { chunk = 64; order = 0; room = 4064; count = 63; colours = 5 }
unfolding layout_of
layout_64_8 = refl

layout_64_64 : layout_of 64 64 ≡ record { chunk = 64; order = 0; room = 4064; count = 63; colours = 1 }
unfolding layout_of
layout_64_64 = refl

layout_65_64 : layout_of 65 64 ≡ record { chunk = 128; order = 0; room = 4064; count = 31; colours = 2 }
unfolding layout_of
layout_65_64 = refl

layout_100_8 : layout_of 100 8 ≡ record { chunk = 104; order = 0; room = 4064; count = 39; colours = 2 }
unfolding layout_of
layout_100_8 = refl

layout_200_8 : layout_of 200 8 ≡ record { chunk = 200; order = 0; room = 4064; count = 20; colours = 9 }
unfolding layout_of
layout_200_8 = refl

layout_256_256 : layout_of 256 256 ≡ record { chunk = 256; order = 0; room = 4064; count = 15; colours = 1 }
unfolding layout_of
layout_256_256 = refl

layout_504_8 : layout_of 504 8 ≡ record { chunk = 504; order = 0; room = 4064; count = 8; colours = 5 }
unfolding layout_of
layout_504_8 = refl

layout_505_8 : layout_of 505 8 ≡ record { chunk = 512; order = 0; room = 4096; count = 8; colours = 1 }
unfolding layout_of
layout_505_8 = refl

layout_600_8 : layout_of 600 8 ≡ record { chunk = 600; order = 0; room = 4096; count = 6; colours = 63 }
unfolding layout_of
layout_600_8 = refl

layout_700_8 : layout_of 700 8 ≡ record { chunk = 704; order = 1; room = 8192; count = 11; colours = 57 }
unfolding layout_of
layout_700_8 = refl

layout_1024_8 : layout_of 1024 8 ≡ record { chunk = 1024; order = 0; room = 4096; count = 4; colours = 1 }
unfolding layout_of
layout_1024_8 = refl

layout_1500_8 : layout_of 1500 8 ≡ record { chunk = 1504; order = 1; room = 8192; count = 5; colours = 85 }
unfolding layout_of
layout_1500_8 = refl

layout_2048_8 : layout_of 2048 8 ≡ record { chunk = 2048; order = 0; room = 4096; count = 2; colours = 1 }
unfolding layout_of
layout_2048_8 = refl

layout_2100_8 : layout_of 2100 8 ≡ record { chunk = 2104; order = 2; room = 16384; count = 7; colours = 208 }
unfolding layout_of
layout_2100_8 = refl

layout_2800_8 : layout_of 2800 8 ≡ record { chunk = 2800; order = 3; room = 32768; count = 11; colours = 247 }
unfolding layout_of
layout_2800_8 = refl

layout_3000_8 : layout_of 3000 8 ≡ record { chunk = 3000; order = 2; room = 16384; count = 5; colours = 174 }
unfolding layout_of
layout_3000_8 = refl

layout_4095_256 : layout_of 4095 256 ≡ record { chunk = 4096; order = 0; room = 4096; count = 1; colours = 1 }
unfolding layout_of
layout_4095_256 = refl

layout_4096_8 : layout_of 4096 8 ≡ record { chunk = 4096; order = 0; room = 4096; count = 1; colours = 1 }
unfolding layout_of
layout_4096_8 = refl

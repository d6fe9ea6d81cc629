-- A choice comes back from its number, by the functions that refuse none: `Backs` says it of what refuses.
use mathlib.Core.Path.{◌≡◌, refl}
use Rattle.std.specs.Prelude.{Result, Ok}
use Rattle.std.specs.Result.{result_unwrap_or}
use Rattle.refusal.specs.declared.Refusal.{Refusal}
use Rattle.layout.specs.Names.{Width, Change, Op, Way, By, Turn, Single, Dir, Sign, Half, Take, Give}
use Rattle.products.specs.Products.{factor_width}
use Rattle.layout.specs.Choices.{width_number, change_number, op_number, way_number, by_number, turn_number, single_number, dir_number, sign_number, take_number, give_number}
use Rattle.layout.specs.MirrorChoices.{width_at, change_at, op_at, way_at, by_at, turn_at, single_at, dir_at, sign_at, half_at, take_at, give_at}
use Rattle.layout.proofs.Backs as Back

chosen : {A : Type 0} {r : Result A Refusal} {a : A} (d : A) → r ≡ Ok a → result_unwrap_or r d ≡ a
chosen d e = rw e refl

pub width_back : (w : Width) → width_at (width_number w) ≡ w
unfolding width_at
width_back w = chosen _ (Back.width_back w)

pub change_back : (change : Change) → change_at (change_number change) ≡ change
unfolding change_at
change_back change = chosen _ (Back.change_back change)

pub op_back : (op : Op) → op_at (op_number op) ≡ op
unfolding op_at
op_back op = chosen _ (Back.op_back op)

pub way_back : (way : Way) → way_at (way_number way) ≡ way
unfolding way_at
way_back way = chosen _ (Back.way_back way)

pub by_back : (by : By) → by_at (by_number by) ≡ by
unfolding by_at
by_back by = chosen _ (Back.by_back by)

pub turn_back : (turn : Turn) → turn_at (turn_number turn) ≡ turn
unfolding turn_at
turn_back turn = chosen _ (Back.turn_back turn)

pub single_back : (single : Single) → single_at (single_number single) ≡ single
unfolding single_at
single_back single = chosen _ (Back.single_back single)

pub dir_back : (dir : Dir) → dir_at (dir_number dir) ≡ dir
unfolding dir_at
dir_back dir = chosen _ (Back.dir_back dir)

pub sign_back : (sign : Sign) → sign_at (sign_number sign) ≡ sign
unfolding sign_at
sign_back sign = chosen _ (Back.sign_back sign)

pub half_back : (h : Half) → half_at (width_number (factor_width h)) ≡ h
unfolding half_at
half_back h = chosen _ (Back.half_back h)

pub take_back : (take : Take) → take_at (take_number take) ≡ take
unfolding take_at
take_back take = chosen _ (Back.take_back take)

pub give_back : (give : Give) → give_at (give_number give) ≡ give
unfolding give_at
give_back give = chosen _ (Back.give_back give)

-- Each code's greatest length is small.
use Rattle.std.proofs.Common.{◌<◌, ◌^◌, arith}

pub small1 : 1 < 2 ^ 32
small1 = omega arith

pub small2 : 2 < 2 ^ 32
small2 = omega arith

pub small3 : 3 < 2 ^ 32
small3 = omega arith

pub small8 : 8 < 2 ^ 32
small8 = omega arith

pub small9 : 9 < 2 ^ 32
small9 = omega arith

pub small10 : 10 < 2 ^ 32
small10 = omega arith

pub small12 : 12 < 2 ^ 32
small12 = omega arith

pub small15 : 15 < 2 ^ 32
small15 = omega arith

pub small22 : 22 < 2 ^ 32
small22 = omega arith

pub small258 : 258 < 2 ^ 32
small258 = omega arith

pub small259 : 259 < 2 ^ 32
small259 = omega arith

pub small23 : 23 < 2 ^ 32
small23 = omega arith

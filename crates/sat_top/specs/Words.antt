-- The words that say a command.
use Rattle.std.specs.Prelude.{ℕ, ◌≤◌, ◌-◌, ◌^◌, ◌==◌, Bool, false, nat_lt, List, [], ◌∷◌, Option, Some, None}
use Rattle.std.specs.Prelude.{if◌then◌else◌, codes}
use Rattle.std.specs.Str.{bytes_eq}
use Rattle.sat_script.specs.Words.{number_up_to}
use Rattle.sat_settle.specs.declared.load_script.TheConstants.{MOST_LOADED}
use Rattle.sat_top.specs.declared.words.TheConstants.{MOST_REPLICAS}
use Rattle.sat_top.specs.declared.words.Command.{Command}
use Rattle.sat_top.specs.declared.words.Command.TheVariants.{Run, Draw, Plan, Place, Audit, Durable, Chain, Load, Help}
use Rattle.sat_top.specs.declared.words.Command.TheVariants.{Version}

-- the command of one word
unfoldable pub command_named : List ℕ → Option Command
command_named word =
    if bytes_eq word (codes "run") then Some Run else (
    if bytes_eq word (codes "draw") then Some Draw else (
    if bytes_eq word (codes "plan") then Some Plan else (
    if bytes_eq word (codes "place") then Some Place else (
    if bytes_eq word (codes "audit") then Some Audit else (
    if bytes_eq word (codes "durable") then Some Durable else (
    if bytes_eq word (codes "--help") then Some Help else (
    if bytes_eq word (codes "--version") then Some Version else None)))))))

-- the chains of a number of replicas, which is 1 to 5
abbrev pub chain_of : Option ℕ → Option Command
chain_of (Some replicas) = if replicas == 0 then None else Some (Chain replicas)
chain_of None = None

-- the command of two words
unfoldable pub command_of_two : List ℕ → List ℕ → Option Command
unfolding number_up_to
command_of_two word replicas =
    if bytes_eq word (codes "chain") then chain_of (number_up_to MOST_REPLICAS replicas) else None

-- the load of two numbers: one below 2^64, and one from 2 up to the most that are drawn
abbrev pub load_of : Option ℕ → Option ℕ → Option Command
load_of (Some seed) (Some acts) = if nat_lt acts 2 then None else Some (Load seed acts)
load_of _ _ = None

-- the command of three words
unfoldable pub command_of_three : List ℕ → List ℕ → List ℕ → Option Command
unfolding number_up_to
command_of_three word seed acts =
    if bytes_eq word (codes "load") then load_of (number_up_to (2 ^ 64 - 1) seed) (number_up_to MOST_LOADED acts)
    else None

-- the command that the words say, None where they are no command
unfoldable pub command_of : List (List ℕ) → Option Command
unfolding command_named command_of_two command_of_three
command_of [] = None
command_of (word ∷ []) = command_named word
command_of (word ∷ replicas ∷ []) = command_of_two word replicas
command_of (word ∷ seed ∷ acts ∷ []) = command_of_three word seed acts
command_of (word ∷ seed ∷ acts ∷ more ∷ words) = None

-- whether the words ask for nodes on threads
unfoldable pub is_live : List (List ℕ) → Bool
is_live (word ∷ []) = bytes_eq word (codes "live")
is_live _ = false

-- a load has acts within its limits, and a chain replicas
abbrev pub IsCommand : Command → Type 0
IsCommand (Load seed acts) = (2 ≤ acts) × (acts ≤ MOST_LOADED)
IsCommand (Chain replicas) = (1 ≤ replicas) × (replicas ≤ MOST_REPLICAS)
IsCommand c = Unit {0}

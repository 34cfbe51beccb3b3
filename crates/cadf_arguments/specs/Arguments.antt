-- Which numbers the engines take, and which exit status and text a refused argument has.
--     is_site_count n          a rehearsal has 1 to 64 sites
--     is_place n               a value has a place from 1 to 999,999,999
--     unit_named word          the unit of time that has this word
--     argument_status_of f     2 if the command line is refused, 4 if out of memory
--     argument_text_of f       which argument is refused
use Rattle.std.specs.Prelude.{ℕ, List, nat_le, Bool, ◌&&◌, if◌then◌else◌, Option, Some, None, codes}
use Rattle.std.specs.Str.{bytes_eq}
use Rattle.cadf_arguments.specs.declared.fault.ArgumentFault.{ArgumentFault}
use Rattle.cadf_arguments.specs.declared.fault.ArgumentFault.TheVariants.{LogName, Sites, Letter, Key, Place, Cells, Salt, Unit as NoUnit, Memory}
use Rattle.cadf_split.specs.declared.unit.Unit.{Unit}
use Rattle.cadf_split.specs.declared.unit.Unit.TheVariants.{Month, Day, Hour}

abbrev pub is_site_count : ℕ → Bool
is_site_count n = nat_le 1 n && nat_le n 64

abbrev pub is_place : ℕ → Bool
is_place n = nat_le 1 n && nat_le n 999999999

abbrev pub unit_named : List ℕ → Option Unit
unit_named word =
    if bytes_eq word (codes "month") then Some Month
    else if bytes_eq word (codes "day") then Some Day else if bytes_eq word (codes "hour") then Some Hour else None

abbrev pub argument_status_of : ArgumentFault → ℕ
argument_status_of LogName = 2
argument_status_of Sites = 2
argument_status_of Letter = 2
argument_status_of Key = 2
argument_status_of Place = 2
argument_status_of Cells = 2
argument_status_of Salt = 2
argument_status_of NoUnit = 2
argument_status_of Memory = 4

abbrev pub argument_text_of : ArgumentFault → List ℕ
argument_text_of LogName = codes "log name"
argument_text_of Sites = codes "sites"
argument_text_of Letter = codes "letter"
argument_text_of Key = codes "key"
argument_text_of Place = codes "place"
argument_text_of Cells = codes "cells"
argument_text_of Salt = codes "salt"
argument_text_of NoUnit = codes "unit"
argument_text_of Memory = codes "out of memory"

use Rattle.cadf_json.proofs.Common.{Some, sym, ap, subst, ◌∙◌, IsValue}
use Rattle.cadf_json.proofs.Decoding.{flat_value}
use Rattle.cadf_json.proofs.Settling.{from_none}
use Rattle.cadf_json.proofs.ReadValues.{value_read}
use Rattle.cadf_json.proofs.value.Json.read_next.Goals as goal

pub settle-requires : goal.settle-requires
settle-requires c = let got = c.in_ok-rising.ensures.ok in (got.0, from_none c.in_ok-rising.rising got.0 c.emptied-flat.ensures.empty got.1.1)

pub of-requires : goal.of-requires
of-requires c =
    let got = c.in_ok-rising.ensures.ok in
    let s = c.in_ok-settle.ensures.ok got.0 (from_none c.in_ok-rising.rising got.0 c.emptied-flat.ensures.empty got.1.1) in
    flat_value _ got.0 _ s (value_read c.args.depth c.args.reader.now c.read_value.new.reader got.0 c.requires.depth c.requires.utf8 got.1.0 s.is_whole)

pub returns-clause-ok : goal.returns-clause-ok
returns-clause-ok c =
    let got = c.in_ok-rising.ensures.ok in
    let s = c.in_ok-settle.ensures.ok got.0 (from_none c.in_ok-rising.rising got.0 c.emptied-flat.ensures.empty got.1.1) in
    got.1.0 ∙ ap (λ e. Some (e, c.read_value.new.reader)) (sym (c.of.ensures ∙ s.decodes))

pub returns-clause-value : goal.returns-clause-value
returns-clause-value c =
    let got = c.in_ok-rising.ensures.ok in
    let s = c.in_ok-settle.ensures.ok got.0 (from_none c.in_ok-rising.rising got.0 c.emptied-flat.ensures.empty got.1.1) in
    subst IsValue (sym c.of.ensures) (flat_value _ got.0 _ s (value_read c.args.depth c.args.reader.now c.read_value.new.reader got.0 c.requires.depth c.requires.utf8 got.1.0 s.is_whole)).1

-- What the proofs of this crate take from outside. Written by tests/proofs/imports.py.
pub use Rattle.cadf_event.specs.Canonical.{AttachmentsAreOfEvents, BodiesAreOfEvents, BodiesExcludeSeparateParts, HasNothingApart, IsAttachment, IsBody, IsBodyAt, IsSomeAttachment, IsSomeBody, IsSomeStep, IsStepPart, IsTextOf, StepsAreOfEvents, keeps_body}
pub use Rattle.cadf_event.specs.ChainFault.{IsChainFault}
pub use Rattle.cadf_event.specs.Document.{AreEntities, DocumentParts, HasLists, IsDocument, IsEventDocument, IsLogDocument, entities_at, entities_in, events_at, events_in, is_log}
pub use Rattle.cadf_event.specs.DocumentBytes.{IsDocumentBytesFault, IsDocumentOf, IsDocumentRefusal, IsJsonRefusal, of_document}
pub use Rattle.cadf_event.specs.DocumentFault.{EntityFails, EventFails, FirstEntity, FirstFault, IsDocumentFault, IsEntitiesFault, IsEventRefusal, IsNotList, IsPropertiesFault, UpToEntities, UpToEvents, UpToLists, UpToLogId}
pub use Rattle.cadf_event.specs.Entity.{EntityParts, IsEntity, IsEntityFault, IsEntityRefusal, IsEntitySeen, key_name, list_name}
pub use Rattle.cadf_event.specs.Event.{AreChains, ChainFails, ChainsFail, FirstRefused, HasChain, HasChains, HasEventTime, HasParties, HasStepTime, HasTime, InnerFails, IsChain, IsEvent, IsSeen, IsStep, IsStepText, IsTimeAt, Parts, StepFails, body_of, chains_in, depth_limits, event_uri, has_action, has_attachments, has_event_type, has_id, has_initiator, has_observer, has_outcome, has_party, has_tags, has_target, has_type_uri, is_shallow, set_apart}
pub use Rattle.cadf_event.specs.EventFault.{IsEventFault, KeepsAt, UpToId, UpToObserver, UpToTypeUri}
pub use Rattle.cadf_event.specs.EventsRead.{EventsAreRead, IsBeside, VisitorRead}
pub use Rattle.cadf_event.specs.Known.{DocumentInvariant, EntityInvariant, IsAttachmentText, IsChainTexts, IsKnownLog, IsNameText, IsStepPartText, NestsWithin, PropertyInvariant, SightingInvariant}
pub use Rattle.cadf_event.specs.LogLists.{AreListsOf}
pub use Rattle.cadf_event.specs.LogName.{NameOnly, NameReads, is_name_text, is_unbroken}
unfoldable pub use Rattle.cadf_event.specs.LogName.{name_of}
pub use Rattle.cadf_event.specs.Names.{is_name}
pub use Rattle.cadf_event.specs.Parts.{EachPair, ItemFails, are_items, has_text, if_there, is_text_that, items_or_none, list_if_there, list_of, list_under, non_empty, texts_in}
pub use Rattle.cadf_event.specs.Property.{IsPropertyFault, PropertyFails, is_property, own_members, parted, passing, properties_of, property_of, reserved}
pub use Rattle.cadf_event.specs.Sighting.{BodyText}
pub use Rattle.cadf_event.specs.TextFault.{IsTextFault}
pub use Rattle.cadf_event.specs.declared.canonical.TextFault.{TextFault}
pub use Rattle.cadf_event.specs.declared.canonical.TextFault.TheVariants.{NotThis}
pub use Rattle.cadf_event.specs.declared.document.DocumentFault.{DocumentFault}
pub use Rattle.cadf_event.specs.declared.document.DocumentFault.TheVariants.{Entity, Event, LogId, Memory as DocumentMemory, Memory, NotList, Property}
pub use Rattle.cadf_event.specs.declared.document.ListMember.{ListMember}
pub use Rattle.cadf_event.specs.declared.document.ListMember.TheVariants.{Events, Geolocations, Metrics, Resources}
pub use Rattle.cadf_event.specs.declared.document.LogLists.{LogLists}
pub use Rattle.cadf_event.specs.declared.document_bytes.DocumentBytesFault.{DocumentBytesFault}
pub use Rattle.cadf_event.specs.declared.document_bytes.DocumentBytesFault.TheVariants.{Document, Json}
pub use Rattle.cadf_event.specs.declared.entity.EntityFault.{EntityFault}
pub use Rattle.cadf_event.specs.declared.entity.EntityFault.TheVariants.{Id as Key, Memory as EntityMemory, NotObject as NoObject, TooDeep as Deep}
pub use Rattle.cadf_event.specs.declared.entity.Kind.{Kind}
pub use Rattle.cadf_event.specs.declared.entity.Kind.TheVariants.{Geolocation, Metric, Resource}
pub use Rattle.cadf_event.specs.declared.event.EventFault.{EventFault}
pub use Rattle.cadf_event.specs.declared.event.EventFault.TheVariants.{Action, Attachment, Chain, EventTime, EventType, Id, Initiator, Memory as EventMemory, NotObject, Observer, Outcome, Tag, Target, TooDeep, TypeUri}
pub use Rattle.cadf_event.specs.declared.property.PropertyFault.{PropertyFault}
pub use Rattle.cadf_event.specs.declared.property.PropertyFault.TheVariants.{Memory as PropertyMemory}
pub use Rattle.cadf_json.proofs.Built.{members_put}
pub use Rattle.cadf_json.proofs.NoText.{no_json-IsNoText, not_canonical-IsNoText, not_whole-IsNoText}
pub use Rattle.cadf_json.proofs.Rewriting.{AreMembers-replaced, AreMembers-without, all-put, all-replaced, all-without, get-left_out, get-new, get-put, get-replaced, get-without, replaced-twice, without-put, without-replaced, without-twice}
pub use Rattle.cadf_json.proofs.Spelled.{spelled_is_value}
pub use Rattle.cadf_json.proofs.TakenApart.{get-emptied, get-other, none-emptied, without-emptied}
pub use Rattle.cadf_json.proofs.Texts.{read-text, text_tells_apart}
pub use Rattle.cadf_json.proofs.Within.{get_is_value}
pub use Rattle.cadf_json.specs.Apart.{TookItems, emptied_at, emptied_in}
pub use Rattle.cadf_json.specs.Parts.{is_object, members_in, to_list}
pub use Rattle.cadf_json.specs.Rewritten.{all_members, is_one_of, limit_for, replaced, without}
pub use Rattle.cadf_json.specs.Value.{AreMembers, IsNoJson, IsNoText, IsNotCanonical, IsNotWhole, IsValue, ItemsAreWhole, MembersAreWhole, SpellsValue, text, text as text_of}
pub use Rattle.cadf_json.specs.declared.value.JsonFault.{JsonFault}
pub use Rattle.cadf_json.specs.declared.value.JsonFault.TheVariants.{Memory as JsonMemory, NotCanonical, NotJson, NotWhole}
pub use Rattle.cadf_terms.specs.Terms.{is_role}
pub use Rattle.cadf_time.proofs.TimeLaws.{one_pair, stamp_spells}
pub use Rattle.cadf_time.specs.Time.{HasShape, SpellsTime, Written, ZoneFits, four_digits, fraction_text, instant_of, stamp, two_digits, zone_text}
pub use Rattle.cadf_time.specs.declared.time.Zone.{Zone}
pub use Rattle.cadf_time.specs.declared.time.Zone.TheVariants.{Utc}
pub use Rattle.json.proofs.Printed.Tokens.{tokens-print}
pub use Rattle.json.proofs.Printed.Trees.{ArePrintable-json_tokens, value-json_tokens}
pub use Rattle.json.proofs.Printed.Utf8.{IsUtf8-quoted}
pub use Rattle.json.specs.Lex.{tokens}
pub use Rattle.json.specs.Print.{escape, quoted}
unfoldable pub use Rattle.json.specs.Print.{escape_byte}
pub use Rattle.serde_json.proofs.Texts.{print-outline}
pub use Rattle.serde_json.proofs.Views.{get_member-put}
pub use Rattle.serde_json.specs.Data.{Data, Items, Members, array, boolean, depth, item, items_depth, member, members_depth, no_items, no_members, null, number, object, put, string}
pub use Rattle.serde_json.specs.Find.{as_array, as_str, get, get_member}
pub use Rattle.serde_json.specs.Read.{max_depth, of_json, read, read as read_text}
pub use Rattle.serde_json.specs.Written.{compact_text}
pub use Rattle.std.proofs.Common.{Bool, Err, FitsSigned, Global, IfErr, IfNone, IfOk, IsUtf8, List, MatchOption, None, Ok, OnErr, Option, Ordering, Result, Some, Vec, [], ap, append_assoc, ap₂, arith, bytes_eq, codes, cond, drop, false, if◌then◌else◌, inl, inr, is_some, length, length-append, length-drop, map, nat_cmp, nat_le, nat_lt, not, option_and_then, option_map, pos, refl, rules, slice_get, string_bytes, subst, suc, sym, take, true, zero, ℕ, ℤ, ◌%◌, ◌&&◌, ◌++◌, ◌+◌, ◌-◌, ◌/◌, ◌<◌, ◌||◌, ◌∙◌, ◌∷◌, ◌≡◌, ◌≢◌, ◌≤◌, ◌⊎◌}
pub use Rattle.std.proofs.Math.Seq.{drop-append_seam, take-append_seam}
pub use Rattle.std.proofs.lemmas.Bool.{and_parts}
pub use Rattle.std.proofs.lemmas.Bool.Decides.{nat_tests}
pub use Rattle.std.proofs.lemmas.Grind.{common_steps}
pub use Rattle.std.proofs.lemmas.Int.{to_z-of_z}
pub use Rattle.std.proofs.lemmas.List.{append-nil, drop_all, drop_more, take_more}
pub use Rattle.std.proofs.lemmas.List.Elements.{All-contains, All-from_recursion, Contains-push}
pub use Rattle.std.proofs.lemmas.Map.Text.{is_eq-slice_cmp}
pub use Rattle.std.proofs.lemmas.Option.{get_or_from_slice_get, slice_get_within}
pub use Rattle.std.proofs.lemmas.Result.{err_from_is_err_and}
pub use Rattle.std.proofs.lemmas.Slice.Eq.{bytes_eq-Decides}
pub use Rattle.std.proofs.lemmas.Str.{IsAscii-append, IsCharBoundary-at_seam, IsUtf8-from_ascii, IsUtf8-from_is_utf8, IsUtf8-string_bytes, is_utf8-from_IsUtf8}
pub use Rattle.std.proofs.lemmas.Str.Ascii.{IsAscii-nil}
pub use Rattle.std.specs.Bool.{then_some}
pub use Rattle.std.specs.Char.{is_ascii_digit}
pub use Rattle.std.specs.Cmp.Lexicographic.{slice_cmp}
pub use Rattle.std.specs.Int.{w128}
pub use Rattle.std.specs.List.{AllByRecursion, list_all, position_or_len}
pub use Rattle.std.specs.Option.{ok_or}
pub use Rattle.std.specs.Ordering.{is_eq, match_ordering}
pub use Rattle.std.specs.Prelude.{Contains}
pub use Rattle.std.specs.Result.{result_ok}
pub use Rattle.std.specs.Str.{IsAscii, IsCharBoundary, is_utf8}
pub use mathlib.Core.Bool.{true≢false}

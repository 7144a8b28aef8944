-- The laws, each under the name of its public function. Crates above cite them from here.
pub use Rattle.clear_laws.proofs.Runs.{flagged_runs_are_told}
pub use Rattle.clear_laws.proofs.Least.{held_slots_are_least}
pub use Rattle.clear_laws.proofs.Told.{clear_nodes_are_told, each_below, passes, may_pass}
pub use Rattle.clear_laws.proofs.Caused.{places_have_causes, may_be_flagged, not_listed, unlisted_goes}
pub use Rattle.clear_laws.proofs.Unflagged.{flagged_within}
pub use Rattle.clear_laws.proofs.Below.{any_found}
pub use Rattle.clear_laws.proofs.Ends.{clear_verdicts_are_one, clear_firmwares_are_never_flagged, flagged_runs_end_at_sites, flagged_runs_end_at_places}
pub use Rattle.clear_laws.proofs.Held.{slots_spread_along_links}
pub use Rattle.clear_laws.proofs.Asked.{askings_tell_clear_nodes}
pub use Rattle.clear_laws.proofs.One.{sites_are_one, places_are_one, nevers_are_one, clear_where_no_sites, none_where_clear}

-- The table is right; what the demands say of two of its chains, and the shares of groups of two; joint chains solved; and for each field of the
-- contracts of the public calls what it says of a case, so that a field that says less is refused.
pub mod BesideCases
pub mod Cases
pub mod CasesDemands
pub mod CasesClosed
pub mod CasesGroups
pub mod CasesJoint
pub mod JoinedSolved
pub mod CasesSolved
pub mod CasesRange
pub mod CasesGroupsSolved
pub mod CasesJoins
pub mod CasesStored
pub mod CasesPrinted
pub mod CasesConverted
pub mod CasesReach
pub mod CasesRounded
pub mod CasesWhole
pub mod CasesListed

pub mod RangeLaws
pub mod StraightSegments
pub mod SegmentBuckets
pub mod SegmentLists
pub mod NetParts
pub mod MappedDays
pub mod MappedLow

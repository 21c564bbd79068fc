-- Laws of the scan, in the form of its loop.
pub mod Scan
